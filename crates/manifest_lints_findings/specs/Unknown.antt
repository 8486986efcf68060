-- The diagnostics on a key outside of a manifest that need no search over sets of facts.
use Rattle.std.specs.Prelude.{◌≡◌, ◌↔◌, ℕ, Bool, IsTrue, List, [], ◌∷◌, ◌++◌, cond, Some}
use Rattle.cargo_platform.specs.Trees.{Condition}
use Rattle.predicate_classes.specs.declared.classes.Category.TheVariants as category
use Rattle.predicate_classes.specs.Classes.{has_category, classified_in, IsUnknownTarget}
use Rattle.manifest_lints_findings.specs.Marks.{Mark}
use Rattle.manifest_lints_findings.specs.declared.codes.KeyLint.{KeyLint}
use Rattle.manifest_lints_findings.specs.declared.codes.KeyLint.TheVariants as code

-- the diagnostic of a lint on the key at an index, if it is reported
abbrev pub mark_where : ℕ → Bool → KeyLint → List Mark
mark_where n is_reported c = cond is_reported ((Some n, c) ∷ []) []

-- they report the name of a target that is not known, what is taken for a fact of rustc's, and what only `--cfg` sets
pub record AreUnknown (c : Condition) (ms : List Mark) : Type 0 where
  pub is_unknown : Bool
  pub exactly : IsTrue is_unknown ↔ IsUnknownTarget c
  pub marks : ms
      ≡ mark_where 0 is_unknown code.UnknownTarget
      ++ (mark_where 0 (has_category category.Mistaken (classified_in [] c)) code.UnknownFact
      ++ mark_where 0 (has_category category.Custom (classified_in [] c)) code.Custom)
