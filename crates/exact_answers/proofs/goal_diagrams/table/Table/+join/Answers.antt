use Rattle.std.proofs.Common.{◌∙◌, ap, arith}
use Rattle.exact_answers.specs.Diagrams.{nodes_of, value}
use Rattle.exact_answers.proofs.Tables.{none-made, made-twice, made-along, halves-joined, new-join, grows-twice}
use Rattle.exact_answers.proofs.goal_diagrams.table.Table.+join.Goals as goal

pub returns-in-Some-clause-made : goal.returns-in-Some-clause-made
returns-in-Some-clause-made t c =
    none-made c.args.self.now c.in-Some.place c.requires.table
    (c.in-Some.ensures.inside c.requires.one c.requires.other)

pub returns-in-Some-clause-means : goal.returns-in-Some-clause-means
returns-in-Some-clause-means t c = c.in-Some.ensures.means

pub join-requires : goal.join-requires
join-requires t c = (
  omega (arith, c.decreases, c.in_ok-halves.ensures.less_without),
  (c.requires.table, (c.in_ok-halves.ensures.one_without, c.in_ok-halves.ensures.other_without)),
)

pub join-requires-2 : goal.join-requires-2
join-requires-2 t c = (
  omega (arith, c.decreases, c.in_ok-halves.ensures.less_with),
  (
    c.in_ok-without.ensures.made.table,
    (
      omega (arith, c.in_ok-halves.ensures.one_with, c.in_ok-without.ensures.made.grows.more),
      omega (arith, c.in_ok-halves.ensures.other_with, c.in_ok-without.ensures.made.grows.more),
    ),
  ),
)

pub node-requires : goal.node-requires
node-requires t c =
    record {
      table = c.in_ok-with.ensures.made.table;
      without = omega (arith, c.in_ok-without.ensures.made.inside, c.in_ok-with.ensures.made.grows.more);
      with = c.in_ok-with.ensures.made.inside;
    }

pub remember-requires : goal.remember-requires
remember-requires t c =
    let a = nodes_of c.args.self.now in
    let d = nodes_of c.node.new.self in
    record {
      table = c.in_ok-place.ensures.made.table;
      joined =
          new-join a d c.args.each c.args.one c.args.other c.in_ok-place.place
          (grows-twice a (nodes_of c.join-2.new.self) d
          (grows-twice a (nodes_of c.join.new.self) (nodes_of c.join-2.new.self)
          c.in_ok-without.ensures.made.grows c.in_ok-with.ensures.made.grows)
          c.in_ok-place.ensures.made.grows)
          c.requires.one c.requires.other c.in_ok-place.ensures.made.inside
          (halves-joined a (nodes_of c.join.new.self) (nodes_of c.join-2.new.self) d c.args.each c.args.one
          c.args.other c.in_ok-halves.halves c.in_ok-without.without c.in_ok-with.with c.in_ok-place.place
          c.in_ok-halves.ensures c.in_ok-without.ensures.made.grows c.in_ok-with.ensures.made.grows
          c.in_ok-without.ensures.made.inside c.in_ok-without.ensures.means c.in_ok-with.ensures.means
          c.in_ok-place.ensures.means);
    }

pub returns-clause-made : goal.returns-clause-made
returns-clause-made t c =
    made-along c.args.self.now c.node.new.self c.remember.new.self c.in_ok-place.place c.remember.ensures.nodes
    c.remember.ensures.table
    (made-twice c.args.self.now c.join-2.new.self c.node.new.self c.in_ok-with.with c.in_ok-place.place
    (made-twice c.args.self.now c.join.new.self c.join-2.new.self c.in_ok-without.without c.in_ok-with.with
    c.in_ok-without.ensures.made c.in_ok-with.ensures.made)
    c.in_ok-place.ensures.made)

pub returns-clause-means : goal.returns-clause-means
returns-clause-means t c = λ holds.
    let a = nodes_of c.args.self.now in
    ap (λ ns. value holds ns c.in_ok-place.place) c.remember.ensures.nodes
    ∙ halves-joined a (nodes_of c.join.new.self) (nodes_of c.join-2.new.self)
    (nodes_of c.node.new.self) c.args.each c.args.one c.args.other c.in_ok-halves.halves c.in_ok-without.without
    c.in_ok-with.with c.in_ok-place.place c.in_ok-halves.ensures c.in_ok-without.ensures.made.grows
    c.in_ok-with.ensures.made.grows c.in_ok-without.ensures.made.inside c.in_ok-without.ensures.means
    c.in_ok-with.ensures.means c.in_ok-place.ensures.means holds
