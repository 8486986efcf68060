use Rattle.std.proofs.Common.{sym, ap, subst, [], map}
use Rattle.toml.specs.Data.{as_str}
use Rattle.toml.specs.View.{view}
use Rattle.toml.specs.declared.value.Value.{Value}
use Rattle.manifests.specs.Declarations.{DeclareEach, each_none, AddsBy, entry_in}
use Rattle.manifests.proofs.Texts.{one_value}
use Rattle.manifests.proofs.declared.ExpectedCfgs.of.Goals as goal

pub values-init : goal.values-init
values-init c = subst (DeclareEach []) (sym (ap (map entry_in) c.new-entries.ensures.items)) each_none

pub values-preserved : goal.values-preserved
values-preserved c =
    one_value c.items_of-value-items.result.now c.values.value-index c.value-item.result _ _ c.values-test.true
    c.values.invariant
    (subst (λ (z : Value). AddsBy (as_str (view z)) (map entry_in c.values.entries.items)
    (map entry_in c.add_value.new.entries.items)) c.value-item.is c.in_ok-add_value.ensures)
