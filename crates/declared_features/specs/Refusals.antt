-- Why the declarations of a document are rejected: the first error.
use Rattle.std.specs.Prelude.{◌≡◌, ◌∷◌, ◌++◌, List, [], All, false, codes}
use Rattle.std.specs.Option.{is_some}
use Rattle.serde_json.specs.Data.{Data}
use Rattle.serde_json.specs.Find.{as_str}
use Rattle.cargo_metadata.specs.Fields.{Field, Fits, IsFirstWrong}
use Rattle.cargo_metadata.specs.Rows.{HasRowsAt, IsFirstAt}
use Rattle.cargo_metadata.specs.declared.refusals.ExpectedValue.TheVariants as expected
use Rattle.declared_features.specs.Documents.{IsText, IsDeclared, IsManifest}
use Rattle.declared_features.specs.declared.manifests.DependencyError.{DependencyError}
use Rattle.declared_features.specs.declared.manifests.DependencyError.TheVariants as in_declared
use Rattle.declared_features.specs.declared.manifests.ManifestError.{ManifestError}
use Rattle.declared_features.specs.declared.manifests.ManifestError.TheVariants as in_manifest
use Rattle.declared_features.specs.declared.manifests.DeclarationsError.{DeclarationsError}
use Rattle.declared_features.specs.declared.manifests.DeclarationsError.TheVariants as refusals

-- ---- the fields, in the order in which they are read

abbrev pub fields_of_subject : List Field
fields_of_subject =
    (codes "name", expected.Text) ∷ (codes "kind", expected.Kind) ∷ (codes "target", expected.Condition) ∷ []

abbrev pub fields_of_flags : List Field
fields_of_flags = (codes "optional", expected.Flag) ∷ (codes "uses_default_features", expected.Flag) ∷ []

abbrev pub fields_of_declared : List Field
fields_of_declared = fields_of_subject ++ fields_of_flags ++ (codes "features", expected.List) ∷ []

abbrev pub fields_of_manifest : List Field
fields_of_manifest = (codes "dependencies", expected.List) ∷ (codes "features", expected.Features) ∷ []

abbrev pub fields_of_document : List Field
fields_of_document = (codes "packages", expected.List) ∷ []

-- ---- the first error

-- the error is in the first field that is not as expected, or else in the first feature that is no text
abbrev pub IsInDeclared : Data → DependencyError → Type 0
IsInDeclared d (in_declared.Field wrong) = IsFirstWrong fields_of_declared d wrong
IsInDeclared d (in_declared.Feature i) =
    All (Fits d) fields_of_declared × IsFirstAt IsText (λ e. is_some (as_str e) ≡ false) (codes "features") i d
IsInDeclared d (in_declared.Memory error) = Unit {0}

-- the features are read after each of the dependencies
abbrev pub IsInManifest : Data → ManifestError → Type 0
IsInManifest d (in_manifest.Field wrong) =
    IsFirstWrong fields_of_manifest d wrong
    × (wrong.field.now ≡ codes "features" → HasRowsAt IsDeclared (codes "dependencies") d)
IsInManifest d (in_manifest.Dependency i wrong) =
    IsFirstAt IsDeclared (λ e. IsInDeclared e wrong) (codes "dependencies") i d
IsInManifest d (in_manifest.Memory error) = Unit {0}

abbrev pub IsRefused : Data → DeclarationsError → Type 0
IsRefused d (refusals.Field wrong) = IsFirstWrong fields_of_document d wrong
IsRefused d (refusals.Package i wrong) = IsFirstAt IsManifest (λ e. IsInManifest e wrong) (codes "packages") i d
IsRefused d (refusals.Memory error) = Unit {0}
