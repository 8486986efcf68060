-- The names that fixes give, and the map of them.
use Rattle.std.proofs.Common.{◌≡◌, ℕ, ◌⊎◌, List, ◌∷◌, ◌++◌, Some, Contains, option_map, BTreeMap, String}
use Rattle.std.proofs.Common.{Global, string_bytes, string_cmp, bytes_eq, arith, refl, sym, ap, ◌∙◌, inl, inr}
use Rattle.std.proofs.lemmas.Bool.{cases_Bool}
use Rattle.std.proofs.lemmas.List.Elements.{Contains-append_right}
use Rattle.std.proofs.lemmas.Map.Text.{btree_map_updates_text}
use Rattle.std.proofs.lemmas.Slice.Eq.{bytes_eq-Decides}
use Rattle.std.specs.BTreeMap.{Updates, get_by_text}
use Rattle.lint_fixes.specs.Names.{IsRename}
use Rattle.lint_fixes.specs.declared.fixing.Fix.{Fix}

-- a map of names after one more
pub renamed_by : (m n : BTreeMap (String Global) (String Global)) (key value : String Global)
    → Updates string_cmp m n key (Some value)
    → (name new : List ℕ) → IsRename n name new → ((string_bytes key ≡ name) × (string_bytes value
    ≡ new)) ⊎ IsRename m name new
renamed_by m n key value updates name new h =
    let found = btree_map_updates_text (string_bytes key) m n (Some value) updates name in
    elim (cases_Bool (bytes_eq (string_bytes key) name)) [
      | inl same ↦
          let here : get_by_text n name ≡ Some value = found ∙ rw same refl in
          let both : Some (string_bytes value) ≡ Some new = sym (ap (option_map string_bytes) here) ∙ h in
          inl ((bytes_eq-Decides (string_bytes key) name).0 same, cc)
      | inr apart ↦
          let there : get_by_text n name ≡ get_by_text m name = found ∙ rw apart refl in
          inr (sym (ap (option_map string_bytes) there) ∙ h)
    ]

pub contains_middle : (done : List Fix) (fix : Fix) (more : List Fix) → Contains (done ++ fix ∷ more) fix
contains_middle done fix more = Contains-append_right done (fix ∷ more) fix (0, omega arith, refl)
