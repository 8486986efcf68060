use Rattle.std.proofs.Common.{ap, ◌∙◌, map, fold}
use Rattle.cargo_platform.specs.Trees.{tree_of, trees_of}
use Rattle.cargo_platform.specs.Hashing.{trees_hash}
use Rattle.cargo_platform.proofs.Members.{count_members}
use Rattle.cargo_platform.proofs.LastMembers.{last_fed}
use Rattle.cargo_platform.proofs.order.expressions.+feed.Goals as goal

-- no member is left after the last
pub feed_all_but_last-returns-clause-fed : goal.feed_all_but_last-returns-clause-fed
feed_all_but_last-returns-clause-fed g t c =
    let es = c.args.members.now in
    let hashed = trees_hash (trees_of (map tree_of es)) in
    let write = g.H.Hasher.write in
    rw (count_members es)
    (last_fed write c.members.state (fold write c.write_usize.new.self hashed) (tree_of c.members.e.now)
    c.members.left.now c.in_default-split_first.ensures.cases c.members.invariant.0
    ∙ ap (λ state. fold write state hashed) c.write_usize.ensures)
