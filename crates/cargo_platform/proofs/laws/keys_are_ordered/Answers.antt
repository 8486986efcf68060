use Rattle.std.proofs.Common.{refl}
use Rattle.cargo_platform.specs.OrderLaws.{name_total, name_equal_iff, value_total, value_key_cmp, value_equal_iff}
use Rattle.cargo_platform.specs.OrderLaws.{tree_total, key_cmp, tree_equal_iff, condition_total, condition_key_cmp}
use Rattle.cargo_platform.specs.OrderLaws.{condition_equal_iff}
use Rattle.cargo_platform.proofs.laws.keys_are_ordered.Goals as goal

pub returns-clause-names : goal.returns-clause-names
returns-clause-names c = record { total = name_total; of_keys = λ m n. refl; equal = name_equal_iff }

pub returns-clause-values : goal.returns-clause-values
returns-clause-values c = record { total = value_total; of_keys = value_key_cmp; equal = value_equal_iff }

pub returns-clause-trees : goal.returns-clause-trees
returns-clause-trees c = record { total = tree_total; of_keys = key_cmp; equal = tree_equal_iff }

pub returns-clause-conditions : goal.returns-clause-conditions
returns-clause-conditions c =
    record { total = condition_total; of_keys = condition_key_cmp; equal = condition_equal_iff }
