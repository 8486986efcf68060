use Rattle.std.proofs.Common.{◌≡◌, ◌∙◌, ℕ, List, [], rules, false, codes, refl, sym, ap}
use Rattle.std.specs.Option.{is_some}
use Rattle.serde_json.specs.Data.{Data}
use Rattle.serde_json.specs.Find.{get}
use Rattle.serde_json.specs.View.{view}
use Rattle.cargo_metadata.specs.Fields.{fits}
use Rattle.cargo_metadata.specs.Rows.{AreRowsAt}
use Rattle.cargo_metadata.specs.declared.refusals.ExpectedValue.{ExpectedValue}
use Rattle.cargo_metadata.specs.declared.refusals.ExpectedValue.TheVariants as expected
use Rattle.cargo_metadata.specs.declared.refusals.FieldError.{FieldError}
use Rattle.cargo_metadata.proofs.Elements.{list_fits, wrong_second}
use Rattle.declared_features.specs.Documents.{IsDeclared}
use Rattle.declared_features.specs.Refusals.{IsInManifest}
use Rattle.declared_features.specs.declared.manifests.DeclaredDependency.{DeclaredDependency}
use Rattle.declared_features.specs.declared.manifests.ManifestError.TheVariants as in_manifest
use Rattle.declared_features.proofs.manifests.manifest_of.Goals as goal

-- the error in the features, after dependencies that were read
lacks_features : (d : Data) (declared : List DeclaredDependency)
    → AreRowsAt IsDeclared (codes "dependencies") d declared
    → fits expected.Features (get (codes "features") d) ≡ false → (wrong : FieldError)
    → wrong.field.now ≡ codes "features"
    → wrong.expected ≡ expected.Features → IsInManifest d (in_manifest.Field wrong)
lacks_features d declared rows misfits wrong field what = (
  wrong_second (codes "dependencies", expected.List) (codes "features") expected.Features [] d wrong
      (list_fits (codes "dependencies") d rows.elements rows.stand)
      (ap (λ (n : List ℕ). fits wrong.expected (get n d)) field
      ∙ ap (λ (w : ExpectedValue). fits w (get (codes "features") d)) what ∙ misfits)
      (field, what),
  λ e. (declared, rows),
)

pub returns-in-Ok-None : goal.returns-in-Ok-None
returns-in-Ok-None c =
    let none : is_some c.in-Ok-None.field-0 ≡ false = search rules in
    lacks_features (view c.args.value.now) c.in_ok-dependencies.dependencies.items c.in_ok-dependencies.ensures
    (sym c.in-Ok-None.ensures.fits ∙ none) _ refl refl
