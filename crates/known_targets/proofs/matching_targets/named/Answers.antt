use Rattle.std.proofs.Common.{◌∙◌, sym, ap, arith, get_or, []}
use Rattle.std.specs.Prelude.{bytes_eq}
use Rattle.partial_facts.specs.Partly.{names_of}
use Rattle.known_targets.proofs.Steps.{named_more, named_none, name_at}
use Rattle.known_targets.proofs.matching_targets.named.Goals as goal

pub returns : goal.returns
returns c k below = c.names.invariant.0 k (omega arith)

pub names-preserved : goal.names-preserved
names-preserved c = (
  λ k h.
      named_more k c.names.i _ _ c.eq.result
      (λ n. bytes_eq (get_or (names_of c.args.names.now) n []) c.args.name.now) (c.with-set.ensures k (omega arith))
      (c.eq.ensures
      ∙ ap (λ t. bytes_eq t c.args.name.now) (sym (name_at c.args.names.now c.names.i _ c.names-test.true)))
      (c.names.invariant.0 k) (λ from. c.names.invariant.1 k from (omega arith)) h,
  λ k from below.
      named_none k c.names.i _ _ c.eq.result (c.with-set.ensures k below) (omega arith)
      (c.names.invariant.1 k (omega arith) below),
)
