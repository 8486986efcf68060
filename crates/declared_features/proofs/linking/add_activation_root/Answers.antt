use Rattle.std.proofs.Common.{[], sym, subst, List, Option, IfSome, IfNone}
use Rattle.cargo_features.specs.declared.packages.Package.{Package}
use Rattle.declared_features.specs.Activation.{IsActivationRoot, IsActive}
use Rattle.std.proofs.lemmas.List.{append-nil}
use Rattle.declared_features.proofs.Activating.{no_current, active, activated}
use Rattle.declared_features.proofs.linking.add_activation_root.Goals as goal

pub returns-in_default : goal.returns-in_default
returns-in_default c = record {
  kept = record {
    more = [];
    packages = sym (append-nil c.args.described.now.packages.items);
    more_edges = [];
    edges = sym (append-nil c.args.described.now.edges.items);
  };
  activated = no_current c.args.requested.now.current c.args.described.now.packages.items c.in_default.is;
}

pub returns-in_default-2 : goal.returns-in_default-2
returns-in_default-2 c = record {
  kept = record {
    more = [];
    packages = sym (append-nil c.args.described.now.packages.items);
    more_edges = [];
    edges = sym (append-nil c.args.described.now.edges.items);
  };
  activated = active c.args.requested.now.current c.args.described.now.packages.items c.in-Some.current c.in-Some.is
      (subst (λ (l : List Package). IsActive l c.in-Some.current) c.deref.ensures.value
      (subst (λ (o : Option Package). IfNone o (IsActive c.deref.result.now c.in-Some.current)) c.in_default-2.is
      c.in_ok-package.ensures.none));
}

pub returns-clause-activated : goal.returns-clause-activated
returns-clause-activated c =
    activated c.args.requested.now.current c.args.described.now.packages.items c.push.new.self.items c.in-Some.current
    c.in-Some-2.package c.in-Some.is
    (subst (λ (l : List Package). IsActivationRoot l c.in-Some.current c.in-Some-2.package) c.deref.ensures.value
    (subst (λ (o : Option Package). IfSome o (IsActivationRoot c.deref.result.now c.in-Some.current)) c.in-Some-2.is
    c.in_ok-package.ensures.root))
    c.in_ok-push.ensures.items
