use Rattle.std.proofs.Common.{◌<◌, refl, true, map, arith, rules}
use Rattle.cargo_platform.specs.Trees.{tree_of, trees_of}
use Rattle.cargo_platform.specs.Inside.Printing.{begun, begun_members}
use Rattle.cargo_platform.specs.ExpressionSizes.{node_count, node_counts}
use Rattle.cargo_platform.proofs.Printing.{group_written, further_written, no_member_left, whole_written}
use Rattle.cargo_platform.proofs.Printing.{others_smaller, first_smaller}
use Rattle.cargo_platform.proofs.display.+print.Goals as goal

-- a group that others follow is smaller than the expression that it is in
pub write_expression-requires : goal.write_expression-requires
write_expression-requires g t c κs within =
    let smaller : node_count c.in-Some.group.now < node_count c.args.e.now =
    omega (
      arith,
      c.groups.invariant.2,
      first_smaller c.groups.left.now c.in-Some.others.now c.in-Some.group.now
          c.in-Some.ensures.cases.0 c.groups.invariant.1,
    ) in
    (omega (arith, c.decreases, smaller), search rules)

pub groups-smaller : goal.groups-smaller
groups-smaller g t c =
    let smaller : node_counts c.write_to_group-in-Some.new.left.now < node_counts c.groups.left.now =
    omega (
      arith,
      c.in_ok-write_to_group-2.ensures.size,
      others_smaller c.groups.left.now c.in-Some.others.now c.in-Some.group.now c.in-Some.ensures.cases.0,
    ) in
    smaller

-- the group, the comma, and what follows up to the next group
pub groups-preserved : goal.groups-preserved
groups-preserved g t c =
    let took = g.W.Write.write_str_gives in
    let text = begun (tree_of c.args.e.now) in
    let others = c.in-Some.others.now in
    let is = c.in-Some.ensures.cases.0 in (
      λ p.
          let so_far = c.groups.invariant.0 p in
          let group = c.in_ok-write_expression.ensures so_far.wrote.plain (refl {a = true}) in
          let comma = c.in_ok-write_comma.ensures group.plain (refl {a = true}) in
          further_written took c.args.f.now c.write_comma.new.f c.write_to_group-in-Some.new.f text
          (begun_members (trees_of (map tree_of others)))
          (begun_members (trees_of (map tree_of c.write_to_group-in-Some.new.left.now)))
          (group_written took c.args.f.now c.groups.f c.write_expression.new.f c.write_comma.new.f text
          c.groups.left.now
          others c.in-Some.group.now is c.groups.invariant.1 so_far group comma)
          (c.in_ok-write_to_group-2.ensures.text comma.plain),
      c.in_ok-write_to_group-2.ensures.followed,
      omega (
        arith,
        c.groups.invariant.2,
        c.in_ok-write_to_group-2.ensures.size,
        others_smaller c.groups.left.now others c.in-Some.group.now is,
      ),
    )

-- no member is left, and the parentheses that end the expression are written
pub returns : goal.returns
returns g t c = λ p ok.
    let took = g.W.Write.write_str_gives in
    let so_far = c.groups.invariant.0 p in
    whole_written took c.args.f.now c.groups.f c.write_ends.new.f (tree_of c.args.e.now)
    (no_member_left took c.args.f.now c.groups.f (begun (tree_of c.args.e.now)) c.groups.left.now
    c.in_default.ensures.cases so_far)
    (c.write_ends.ensures so_far.wrote.plain ok)
