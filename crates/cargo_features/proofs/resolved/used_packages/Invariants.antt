use Rattle.std.proofs.Common.{◌≡◌, ◌<◌, ℕ, vec_len}
use Rattle.known_targets.specs.declared.table.TheConstants.{COUNT}
use Rattle.package_graphs.specs.Graphs.{is_in}
use Rattle.cargo_features.specs.Inside.Exact.{is_used}
use Rattle.cargo_features.proofs.resolved.used_packages.Given as goal

abbrev pub invariant-packages : goal.invariant-packages
invariant-packages l = record {
  many : vec_len l.sets ≡ l.i;
  sets : (p k : ℕ) → p < l.i → k < COUNT → is_in l.sets.items p k ≡ is_used l.packages l.found p k;
}
