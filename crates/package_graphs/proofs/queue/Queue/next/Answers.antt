use Rattle.std.proofs.Common.{List, ℕ, subst}
use Rattle.package_graphs.specs.Inside.Spreading.{IsList}
use Rattle.package_graphs.proofs.Waiting.{popped, was_waiting}
use Rattle.package_graphs.proofs.queue.Queue.next.Goals as goal

pub returns-clause-queue : goal.returns-clause-queue
returns-clause-queue c =
    popped c.args.self.now.waiting.items c.in_ok-node.node c.pop_front.new.self.items
    (subst (λ (xs : List ℕ). IsList c.args.self.now.waiting.items xs) c.in_ok-node.ensures.items c.requires)

pub returns-clause-was : goal.returns-clause-was
returns-clause-was c =
    was_waiting c.args.self.now.waiting.items c.args.self.now.nodes.items c.pop_front.new.self.items c.in_ok-node.node
    c.in_ok-node.ensures.items c.requires
