use Rattle.std.proofs.Common.{◌≡◌, List, length}
use Rattle.std.specs.Prelude.{◌↔◌, IsTrue}
use Rattle.std.specs.FinSet.{contains}
use Rattle.cargo_platform.specs.Facts.{Pair, FactSet}
use Rattle.byte_answers.specs.Prepared.{Entry, AreEntries, index_of, HasFactOf, Means, IsSought}
use Rattle.byte_answers.proofs.prepared.has.Given as goal

-- what is left is an index that has the fact if the set has it
abbrev pub invariant-entries : goal.invariant-entries
invariant-entries l =
    (s : FactSet) (q : Pair) → Means l.facts.texts.now l.facts.index.now l.facts.filter.now s
    → IsSought l.sought q
    → (es : List Entry) × (AreEntries es × (index_of es ≡ l.left)
    × (IsTrue (contains s q) ↔ HasFactOf l.facts.texts.now es q))

abbrev pub decreases-entries : goal.decreases-entries
decreases-entries l = length l.left
