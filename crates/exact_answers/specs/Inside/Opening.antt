-- What is known of an expression, with its first open pair.
use Rattle.std.specs.Prelude.{◌≡◌, Bool, true, Option, Some, None}
use Rattle.cargo_platform.specs.Trees.{Tree, value_of}
use Rattle.cargo_platform.specs.Facts.{Pair, pair_of}
use Rattle.partial_facts.specs.Kleene.{kleene}
use Rattle.exact_answers.specs.Asking.{asks}
use Rattle.exact_answers.specs.Inside.Searches.{as_wanted}
use Rattle.exact_answers.specs.declared.opening.Verdict.{Verdict}
use Rattle.exact_answers.specs.declared.opening.Verdict.TheVariants as verdict

-- the truth of a tree, or an open pair that is in it where it is not decided
abbrev pub SaysVerdict : Verdict → (Pair → Option Bool) → Tree → Type 0
SaysVerdict (verdict.Decided b) told e = kleene told e ≡ Some b
SaysVerdict (verdict.Open c) told e =
    (kleene told e ≡ None)
    × ((told (pair_of (value_of c.now)) ≡ None) × (asks e (pair_of (value_of c.now)) ≡ true))

-- the whole is true where the part has the truth that is wanted, and asks for the pairs of the part
abbrev pub HangsOn : Bool → (Pair → Option Bool) → Tree → Tree → Type 0
HangsOn wanted told whole part =
    (as_wanted wanted (kleene told part) ≡ kleene told whole)
    × ((p : Pair) → asks part p ≡ true → asks whole p ≡ true)
