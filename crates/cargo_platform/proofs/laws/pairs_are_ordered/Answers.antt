use Rattle.std.proofs.Common.{refl, ap, ◌∙◌}
use Rattle.std.specs.Cmp.{tied_itself}
use Rattle.cargo_platform.specs.Facts.{pair_cmp}
use Rattle.cargo_platform.proofs.FactSets.{pairs_total}
use Rattle.cargo_platform.proofs.FactTruths.{pair_tie}
use Rattle.cargo_platform.proofs.laws.pairs_are_ordered.Goals as goal

pub returns : goal.returns
returns c = record {
  total = pairs_total;
  of_keys = λ p q. refl;
  equal = λ p q. (pair_tie p q, λ same. ap (λ x. pair_cmp x q) same ∙ tied_itself pairs_total q);
}
