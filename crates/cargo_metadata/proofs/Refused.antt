-- The first error of a document.
use Rattle.std.proofs.Common.{◌≡◌, ℕ, List, [], ◌∷◌, ◌++◌, codes, refl}
use Rattle.std.specs.Prelude.{All}
use Rattle.std.specs.Borrow.{Bor}
use Rattle.std.proofs.lemmas.List.Elements.{All-nil, All-cons}
use Rattle.serde_json.specs.Data.{Data}
use Rattle.cargo_metadata.specs.Fields.{Field, fields_of_document}
use Rattle.cargo_metadata.specs.Rows.{AreRowsAt}
use Rattle.cargo_metadata.specs.Packages.{IsPackage}
use Rattle.cargo_metadata.specs.Documents.{IsMember, IsVersionOne, IsIn, IsFault, IsWhole, IsRefused}
use Rattle.cargo_metadata.specs.declared.packages.Package.{Package}
use Rattle.cargo_metadata.specs.declared.refusals.ExpectedValue.TheVariants as expected
use Rattle.cargo_metadata.specs.declared.refusals.MetadataError.{MetadataError}
use Rattle.cargo_metadata.proofs.Elements.{list_fits}

pub version_whole : (d : Data) → IsVersionOne d → IsWhole d (codes "version", expected.One)
version_whole d one = record {
  itself = one;
  packages = λ e. absurd cc;
  members = λ e. absurd cc;
}

pub packages_whole : (d : Data) (ps : List Package) → AreRowsAt IsPackage (codes "packages") d ps
    → IsWhole d (codes "packages", expected.List)
packages_whole d ps rows = record {
  itself = list_fits (codes "packages") d rows.elements rows.stand;
  packages = λ e. (ps, rows);
  members = λ e. absurd cc;
}

pub members_whole : (d : Data) (ms : List (Bor (List ℕ))) → AreRowsAt IsMember (codes "workspace_members") d ms
    → IsWhole d (codes "workspace_members", expected.List)
members_whole d ms rows = record {
  itself = list_fits (codes "workspace_members") d rows.elements rows.stand;
  packages = λ e. absurd cc;
  members = λ e. (ms, rows);
}

-- the error is in the field after these
first_part : (before : List Field) (field : Field) (after : List Field) (d : Data) (refusal : MetadataError)
    → fields_of_document ≡ before ++ field ∷ after → All (IsWhole d) before → IsFault d refusal → IsIn field refusal
    → IsRefused d refusal
first_part before field after d refusal order whole fault within = record {
  before = before;
  field = field;
  after = after;
  order = order;
  whole = whole;
  within = within;
  fault = fault;
}

pub in_version : (d : Data) (refusal : MetadataError) → IsFault d refusal → IsIn (codes "version", expected.One) refusal
    → IsRefused d refusal
in_version d refusal fault within = first_part [] _ _ d refusal refl (All-nil (IsWhole d)) fault within

module _ (d : Data) (refusal : MetadataError) (one : IsVersionOne d) (fault : IsFault d refusal) where
  whole_version : All (IsWhole d) ((codes "version", expected.One) ∷ [])
  whole_version =
      All-cons (IsWhole d) (codes "version", expected.One) [] (version_whole d one) (All-nil (IsWhole d))

  pub in_packages : IsIn (codes "packages", expected.List) refusal → IsRefused d refusal
  in_packages within = first_part ((codes "version", expected.One) ∷ []) _ _ d refusal refl whole_version fault within

  module _ (ps : List Package) (packages : AreRowsAt IsPackage (codes "packages") d ps) where
    whole_packages : All (IsWhole d) ((codes "packages", expected.List) ∷ [])
    whole_packages =
        All-cons (IsWhole d) (codes "packages", expected.List) [] (packages_whole d ps packages) (All-nil (IsWhole d))

    pub in_members : IsIn (codes "workspace_members", expected.List) refusal → IsRefused d refusal
    in_members within =
        let before : List Field = (codes "version", expected.One) ∷ (codes "packages", expected.List) ∷ [] in
        first_part before _ _ d refusal refl
        (All-cons (IsWhole d) (codes "version", expected.One) ((codes "packages", expected.List) ∷ [])
        (version_whole d one)
        whole_packages) fault within

    pub in_resolve : (ms : List (Bor (List ℕ))) → AreRowsAt IsMember (codes "workspace_members") d ms
        → IsIn (codes "resolve", expected.Resolve) refusal → IsRefused d refusal
    in_resolve ms members within =
        let last : List Field = (codes "workspace_members", expected.List) ∷ [] in
        first_part ((codes "version", expected.One) ∷ (codes "packages", expected.List) ∷ last) _ _ d refusal refl
        (All-cons (IsWhole d) (codes "version", expected.One) ((codes "packages", expected.List) ∷ last)
        (version_whole d one)
        (All-cons (IsWhole d) (codes "packages", expected.List) last (packages_whole d ps packages)
        (All-cons (IsWhole d) (codes "workspace_members", expected.List) [] (members_whole d ms members)
        (All-nil (IsWhole d))))) fault within
