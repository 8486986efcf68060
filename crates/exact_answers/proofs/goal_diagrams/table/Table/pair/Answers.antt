use Rattle.std.proofs.Common.{◌<◌, subst, sym, not}
use Rattle.std.proofs.lemmas.Result.{IfOk-weaker}
use Rattle.exact_answers.specs.Diagrams.{nodes_of, places}
use Rattle.exact_answers.proofs.Tables.{literal-inside, pair-step}
use Rattle.exact_answers.proofs.goal_diagrams.table.Table.pair.Goals as goal

pub node-requires : goal.node-requires
node-requires c =
    let ns = nodes_of c.args.self.now in
    record {
      table = c.requires;
      without = subst (λ x. x < places ns) (sym c.literal-without.ensures) (literal-inside ns (not c.args.wanted));
      with = subst (λ x. x < places ns) (sym c.literal-with.ensures) (literal-inside ns c.args.wanted);
    }

pub returns-clause-means : goal.returns-clause-means
returns-clause-means c =
    IfOk-weaker c.node.result _ _
    (λ place is holds.
    pair-step holds (nodes_of c.args.self.now) c.args.number c.literal-without.result c.literal-with.result
    c.args.wanted _ c.literal-without.ensures c.literal-with.ensures (is holds))
    c.node.ensures.means
