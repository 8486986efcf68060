use Rattle.std.proofs.Common.{◌≡◌, ◌<◌, ◌≤◌, ◌+◌, ◌∙◌, ◌⊎◌, inl, inr, ℕ, List, Option, Some, None, Bor, Vec, Global}
use Rattle.std.proofs.Common.{Bool, true, false}
use Rattle.std.proofs.Common.{length, take, get_or, sym, refl, ap, subst, arith, map}
use Rattle.std.specs.Prelude.{Any}
use Rattle.declared_features.specs.MissingEdges.{MayBeFiltered}
use Rattle.declared_features.proofs.First.{none_next, none_end}
use Rattle.declared_features.proofs.missing_edges.may_be_filtered_any.Goals as goal

pub declared-preserved : goal.declared-preserved
declared-preserved c =
    none_next (MayBeFiltered c.args.searched.now.graph c.args.node) c.args.declared.now c.declared.i
    c.index-declared-i.result
    c.declared-test.true c.index-declared-i.is
    (λ may_be. let yes = c.may_be_filtered.ensures.1 may_be in let no = c.if-may_be_filtered.false in cc)
    c.declared.invariant

pub returns : goal.returns
returns c some =
    absurd (none_end (MayBeFiltered c.args.searched.now.graph c.args.node) c.args.declared.now c.declared.i
    c.declared-test.false
    c.declared.invariant some)
