use Rattle.std.proofs.Common.{◌≡◌, ◌<◌, ◌≤◌, ◌+◌, ◌∙◌, ◌⊎◌, inl, inr, ℕ, List, Option, Some, None, Bor, Vec, Global}
use Rattle.std.proofs.Common.{Bool, true, false}
use Rattle.std.proofs.Common.{length, take, get_or, sym, refl, ap, subst, arith, map}
use Rattle.declared_features.specs.NameSets.{HasName, AddsNames}
use Rattle.declared_features.specs.MissingEdges.{turned_on_by}
use Rattle.declared_features.proofs.Growing.{grown_copied, grown_end}
use Rattle.declared_features.proofs.missing_edges.add_turned_on.Goals as goal

pub entries-preserved : goal.entries-preserved
entries-preserved c =
    grown_copied (HasName c.args.names.now) (HasName c.entries.names) (HasName c.add_name.new.names) c.args.entries.now
    c.entries.i _ (λ e q. turned_on_by e ≡ Some q) c.entries-test.true
    (subst (λ (o : Option (List ℕ)). AddsNames c.entries.names c.add_name.new.names (λ q. o ≡ Some q))
    c.turned_on.ensures c.in_ok-add_name.ensures) c.entries.invariant

pub returns : goal.returns
returns c =
    grown_end (HasName c.args.names.now) (HasName c.entries.names) c.args.entries.now c.entries.i
    (λ e q. turned_on_by e ≡ Some q) c.entries-test.false c.entries.invariant
