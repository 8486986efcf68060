use Rattle.std.proofs.Common.{◌≡◌, ◌<◌, ℕ, get_or, vec_len}
use Rattle.cargo_features.specs.Inside.Numbered.{first_of}
use Rattle.cargo_features.proofs.numbers.Numbers.new.Given as goal

abbrev pub invariant-packages : goal.invariant-packages
invariant-packages l = record {
  many : vec_len l.firsts ≡ l.unit-index;
  count : l.count ≡ first_of l.packages l.unit-index;
  firsts : (p : ℕ) → p < l.unit-index → get_or l.firsts.items p 0 ≡ first_of l.packages p;
}
