use Rattle.std.proofs.Common.{◌≡◌, ◌<◌, ◌≤◌, ◌+◌, ◌∙◌, ◌⊎◌, inl, inr, ℕ, List, Option, Some, None, Bor, Vec, Global}
use Rattle.std.proofs.Common.{Bool, true, false}
use Rattle.std.proofs.Common.{length, take, get_or, sym, refl, ap, subst, arith, map}
use Rattle.declared_features.proofs.Enabling.{some_target}
use Rattle.declared_features.proofs.missing_edges.is_feature_enabled.Goals as goal

pub returns : goal.returns
returns c numbers =
    some_target c.args.resolved.now c.args.node c.args.feature c.at-target.result c.at-host.result c.union.result
    c.is_empty.result (c.at-target.ensures numbers) (c.at-host.ensures numbers) c.union.ensures c.is_empty.ensures.yes
    c.is_empty.ensures.no
