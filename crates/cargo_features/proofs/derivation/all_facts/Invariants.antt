use Rattle.std.proofs.Common.{◌<◌, ℕ}
use Rattle.std.specs.Prelude.{All, Contains}
use Rattle.cargo_features.proofs.derivation.all_facts.Given as goal

abbrev pub invariant-facts : goal.invariant-facts
invariant-facts l = record {
  known : All (λ n. n < l.count) l.facts.items;
  all : (n : ℕ) → n < l.fact → Contains l.facts.items n;
}
