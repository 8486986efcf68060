-- The members of a table and of a fixed one, by a map of their names.
use Rattle.std.proofs.Common.{◌≡◌, ℕ, ◌⊎◌, List, Bool, true, false, cond, Option, Some, None, IsSome, is_some}
use Rattle.std.proofs.Common.{option_map, Bor, BTreeMap, String, Global, string_bytes, refl, sym, ap, ◌∙◌, inl, inr}
use Rattle.std.specs.BTreeMap.{get_by_text}
use Rattle.std.specs.Option.{unwrap_or}
use Rattle.toml.specs.Data.{Data, Members, get_member}
use Rattle.lint_fixes.specs.Sameness.{AreRenamed, Where}
use Rattle.lint_fixes.specs.Names.{AreOldNames, IsRename, name_in, old_name}

named_by : (b : Bool) (o : Option (List ℕ)) (name : List ℕ)
    → (cond b name (unwrap_or o name) ≡ name) ⊎ (o ≡ Some (cond b name (unwrap_or o name)))
named_by true o name = inl refl
named_by false None name = inl refl
named_by false (Some new) name = inr refl

-- a name stays, or is renamed where names may change
pub named_in : (renamed : Bool) (fixed : Members) (renames : BTreeMap (String Global) (String Global)) (name : List ℕ)
    → (name_in renamed fixed renames name ≡ name) ⊎ Where renamed (IsRename renames) name
    (name_in renamed fixed renames name)
named_in false fixed renames name = inl refl
named_in true fixed renames name = named_by (is_some (get_member name fixed)) (option_map string_bytes
    (get_by_text renames name)) name

some_name : (o : Option (List ℕ)) → IsSome o → (name : List ℕ) × (o ≡ Some name)
some_name None h = cc
some_name (Some name) h = (name, refl)

pub are_renamed : (renamed : Bool) (renames : BTreeMap (String Global) (String Global)) (IsSame : List ℕ → Data
    → Data → Type 0) (old fixed : Members) (names : BTreeMap (Bor (List ℕ)) (Bor (List ℕ)))
    → AreOldNames (name_in renamed fixed renames) old names
    → ((name : List ℕ) → IsSome (get_member name fixed) → IsSome (old_name names name))
    → ((name : List ℕ) (value : Data) → get_member name old ≡ Some value
    → (other : Data) × (get_member (name_in renamed fixed renames name) fixed
    ≡ Some other) × IsSame name value other)
    → AreRenamed (Where renamed (IsRename renames)) IsSame old fixed
are_renamed renamed renames IsSame old fixed names are all kept = record {
  name_of = name_in renamed fixed renames;
  named = named_in renamed fixed renames;
  kept = kept;
  only = λ name h.
      let some = some_name (old_name names name) (all name h) in
      let known = are.only name some.0 some.1 in
      (some.0, known.1, known.0);
  apart = λ name other h k same.
      let one = are.found name h in
      let two = are.found other k in
      let both : Some name ≡ Some other = sym one ∙ ap (old_name names) same ∙ two in
      cc;
}
