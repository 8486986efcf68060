use Rattle.std.proofs.Common.{arith}
use Rattle.cargo_features.proofs.Following.{more_derived}
use Rattle.cargo_features.proofs.rule_laws.order_does_not_count.Goals as goal

pub returns : goal.returns
returns c sets rules others k n part whole = (
  more_derived sets sets rules others k n (record { count = omega arith; sets = λ m j is. is }) part,
  more_derived sets sets others rules k n (record { count = omega arith; sets = λ m j is. is }) whole,
)
