use Rattle.std.proofs.Common.{◌≡◌, ◌+◌, arith, refl}
use Rattle.std.proofs.lemmas.List.{length-reverse}
use Rattle.exact_answers.specs.Diagrams.{nodes_of, places}
use Rattle.exact_answers.proofs.Tables.{pushed-made, pushed-means}
use Rattle.exact_answers.proofs.goal_diagrams.table.Table.push.Goals as goal

pub returns-clause-made : goal.returns-clause-made
returns-clause-made c =
    let at : c.len-place.result + 2 ≡ places (nodes_of c.args.self.now) =
    omega (arith, length-reverse c.args.self.now.nodes.items, c.args.self.now.nodes.ok.0, c.len-place.ensures) in
    pushed-made c.args.self.now (record c.args.self.now { nodes = c.push.new.self }) c.args.node
    (c.len-place.result + 2) c.in_ok-push.ensures.items refl at c.requires.table c.requires.without c.requires.with
    c.requires.differ

pub returns-clause-means : goal.returns-clause-means
returns-clause-means c = λ holds.
    let at : c.len-place.result + 2 ≡ places (nodes_of c.args.self.now) =
    omega (arith, length-reverse c.args.self.now.nodes.items, c.args.self.now.nodes.ok.0, c.len-place.ensures) in
    pushed-means c.args.self.now (record c.args.self.now { nodes = c.push.new.self }) c.args.node
    (c.len-place.result + 2) c.in_ok-push.ensures.items at holds
