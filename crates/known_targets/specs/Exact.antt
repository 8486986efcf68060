-- Conditions that hold at the targets of a set.
use Rattle.std.specs.Prelude.{◌<◌, ◌↔◌, ℕ, IsTrue}
use Rattle.cargo_platform.specs.Trees.{Condition}
use Rattle.cargo_platform.specs.Facts.{IsTrueCondition}
use Rattle.known_targets.specs.Sets.{is_member}
use Rattle.known_targets.specs.Table.{target_name, target_facts}
use Rattle.known_targets.specs.declared.table.TheConstants.{COUNT}
use Rattle.known_targets.specs.declared.target_set.TargetSet.{TargetSet}

-- of the known targets the condition holds at those of the set, and at no other
abbrev pub HoldsExactly : TargetSet → Condition → Type 0
HoldsExactly set c =
    (k : ℕ) → k < COUNT → IsTrue (is_member set k) ↔ IsTrueCondition (target_name k) (target_facts k) c
