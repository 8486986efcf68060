use Rattle.std.proofs.Common.{◌≡◌, Some, take}
use Rattle.std.specs.Prelude.{Any}
use Rattle.serde_json.specs.Find.{as_str}
use Rattle.serde_json.specs.View.{view}
use Rattle.declared_features.specs.NameSets.{AddsNames}
use Rattle.declared_features.proofs.missing_edges.names_of_features.Given as goal

abbrev pub invariant-features : goal.invariant-features
invariant-features l =
    AddsNames l.initial.names l.names (λ q. Any (λ v. as_str (view v) ≡ Some q) (take l.i l.features))
