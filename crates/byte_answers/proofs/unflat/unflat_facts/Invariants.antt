use Rattle.std.proofs.Common.{◌≡◌, ◌++◌, length, map, reverse}
use Rattle.cargo_platform.specs.Trees.{value_of}
use Rattle.byte_answers.specs.Flat.{flat_values}
use Rattle.byte_answers.proofs.Building.{LeadsToFacts}
use Rattle.byte_answers.proofs.unflat.unflat_facts.Given as goal

abbrev pub invariant-records : goal.invariant-records
invariant-records l =
    (l.bytes ≡ l.left ++ flat_values (reverse (map value_of l.facts.items))) × LeadsToFacts l.bytes l.left

abbrev pub decreases-records : goal.decreases-records
decreases-records l = length l.left
