use Rattle.std.proofs.Common.{◌∙◌, sym}
use Rattle.exact_answers.specs.Diagrams.{nodes_of}
use Rattle.exact_answers.proofs.Tables.{join-same, join-neutral, neutral-join, settled-join, join-settled}
use Rattle.exact_answers.proofs.goal_diagrams.table.Table.joined_at_once.Goals as goal

pub returns-then-one-other : goal.returns-then-one-other
returns-then-one-other c =
    join-same (nodes_of c.args.self.now) c.args.each c.args.one c.args.other c.if-one-other.true

pub returns-then-other-neutral : goal.returns-then-other-neutral
returns-then-other-neutral c =
    join-neutral (nodes_of c.args.self.now) c.args.each c.args.one c.args.other
    (c.if-other-neutral.true ∙ c.literal-neutral.ensures)

pub returns-then-one-neutral : goal.returns-then-one-neutral
returns-then-one-neutral c =
    neutral-join (nodes_of c.args.self.now) c.args.each c.args.one c.args.other
    (c.if-one-neutral.true ∙ c.literal-neutral.ensures)

pub returns-then-one-lt2 : goal.returns-then-one-lt2
returns-then-one-lt2 c =
    settled-join (nodes_of c.args.self.now) c.args.each c.args.one c.args.other c.literal-opposite.result
    c.if-one-lt2.true (λ e. c.if-one-neutral.false (e ∙ sym c.literal-neutral.ensures)) c.literal-opposite.ensures

pub returns-then-other-lt2 : goal.returns-then-other-lt2
returns-then-other-lt2 c =
    join-settled (nodes_of c.args.self.now) c.args.each c.args.one c.args.other c.literal-opposite.result
    c.if-other-lt2.true (λ e. c.if-other-neutral.false (e ∙ sym c.literal-neutral.ensures)) c.literal-opposite.ensures
