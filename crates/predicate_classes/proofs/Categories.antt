-- What some known target has.
use Rattle.std.proofs.Common.{◌≡◌, refl, sym, ℕ, ◌<◌, Bool, true, false, not}
use Rattle.std.specs.FinSet.{contains}
use Rattle.cargo_platform.specs.Trees.{CfgValue}
use Rattle.cargo_platform.specs.Facts.{pair_of}
use Rattle.known_targets.specs.Sets.{is_member}
use Rattle.known_targets.specs.Table.{table_keys, target_facts}
use Rattle.known_targets.specs.Listed.{is_had}
use Rattle.known_targets.specs.declared.target_set.TargetSet.{TargetSet}
use Rattle.known_targets.specs.declared.table.TheConstants.{COUNT}
use Rattle.known_targets.proofs.Listed.{had_by, not_had_by}

pub had_iff : (v : CfgValue) (set : TargetSet) (empty : Bool)
    → ((k : ℕ) → k < COUNT → is_member set k ≡ contains (target_facts k) (pair_of v))
    → (empty ≡ true → (k : ℕ) → k < COUNT → is_member set k ≡ false)
    → (((k : ℕ) → k < COUNT → is_member set k ≡ false) → empty ≡ true) → not empty ≡ is_had table_keys v
had_iff v set empty exact if_empty if_none =
    elim empty as (λ b. empty ≡ b → not b ≡ is_had table_keys v) [
      | true ↦ λ e. sym (not_had_by table_keys v set empty exact if_empty e)
      | false ↦ λ e. sym (had_by table_keys v set empty exact if_none e)
    ] refl
