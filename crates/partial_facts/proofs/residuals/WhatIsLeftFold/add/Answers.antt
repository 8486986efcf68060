use Rattle.std.proofs.Common.{◌∙◌, sym, ap, map}
use Rattle.cargo_platform.specs.Trees.{tree_of, trees_of}
use Rattle.partial_facts.specs.Inside.Reducing.{left_behind}
use Rattle.partial_facts.proofs.Reducing.{left_more, left_over, left_settled}
use Rattle.partial_facts.proofs.residuals.WhatIsLeftFold.add.Goals as goal

pub returns-in_ok-with_member-in-None : goal.returns-in_ok-with_member-in-None
returns-in_ok-with_member-in-None g c = λ es e so_far made others.
    let told = g.K.Knowledge.told c.args.self.now.known.now in
    ap (λ xs. left_behind told c.args.neutral xs (trees_of others)) c.in_ok-with_member-in-None.ensures
    ∙ left_more told c.args.neutral es (map tree_of c.args.so_far.items) e (tree_of c.args.part) so_far made
    (sym c.literal_truth.ensures ∙ c.in-None.is) others

pub returns-then-truth-neutral : goal.returns-then-truth-neutral
returns-then-truth-neutral g c = λ es e so_far made.
    left_over (g.K.Knowledge.told c.args.self.now.known.now) c.args.neutral es (map tree_of c.args.so_far.items) e
    (tree_of c.args.part) so_far made c.in-Some.truth (sym c.literal_truth.ensures ∙ c.in-Some.is)
    c.if-truth-neutral.true

pub returns-else-truth-neutral : goal.returns-else-truth-neutral
returns-else-truth-neutral g c = λ es e so_far made.
    left_settled (g.K.Knowledge.told c.args.self.now.known.now) c.args.neutral es (map tree_of c.args.so_far.items) e
    (tree_of c.args.part) so_far made c.in-Some.truth (sym c.literal_truth.ensures ∙ c.in-Some.is)
    c.if-truth-neutral.false
