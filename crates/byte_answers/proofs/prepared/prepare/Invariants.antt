use Rattle.std.proofs.Common.{◌≡◌, ◌++◌, List, length, map}
use Rattle.cargo_platform.specs.declared.cfg.Cfg.{Cfg}
use Rattle.cargo_platform.specs.Trees.{value_of}
use Rattle.byte_answers.specs.Prepared.{Entry, AreEntries, index_of}
use Rattle.byte_answers.proofs.PreparedSets.{AreOf, AreAdmitted}
use Rattle.byte_answers.proofs.prepared.prepare.Given as goal

-- the index has the entries of the facts that are not left, and the filter admits these
abbrev pub invariant-facts : goal.invariant-facts
invariant-facts l =
    (done : List Cfg) × ((es : List Entry) × ((l.facts ≡ l.left ++ done) × AreEntries es
    × (index_of es ≡ l.index.items) × AreOf l.texts.items es (map value_of done) × (length l.filter ≡ 256)
    × AreAdmitted l.filter (map value_of done)))

abbrev pub decreases-facts : goal.decreases-facts
decreases-facts l = length l.left
