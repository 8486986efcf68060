use Rattle.std.proofs.Common.{◌∙◌, sym, refl, true, map, arith}
use Rattle.cargo_platform.specs.Trees.{tree_of, trees_of}
use Rattle.cargo_platform.specs.Inside.Printing.{begun_members}
use Rattle.cargo_platform.proofs.Printing.{leaf_written, group_opened, others_smaller, first_within}
use Rattle.cargo_platform.proofs.display.write_to_group.Goals as goal

-- the group is opened
pub members-preserved-in-Some-members_of : goal.members-preserved-in-Some-members_of
members-preserved-in-Some-members_of g c =
    let left = c.members.left.now in
    let is = c.in-Some.ensures.cases.0 in (
      λ p.
          let so_far = c.members.invariant.0 p in
          group_opened g.W.Write.write_str_gives c.args.f.now c.members.f c.write_word.new.f
          (begun_members (trees_of (map tree_of c.args.left.now.now))) left c.in-Some.others.now c.in-Some.first.now
          c.in-Some-members_of.members.now is (sym c.is_followed_group.ensures ∙ c.if-is_followed_group.false)
          c.in-Some-members_of.ensures.group c.in-Some-members_of.ensures.begun so_far
          (c.in_ok-write_word.ensures so_far.wrote.plain (refl {a = true})),
      omega (
        arith,
        c.members.invariant.1,
        first_within left c.in-Some.others.now c.in-Some.first.now is,
        c.in-Some-members_of.ensures.size,
      ),
    )

-- the leaf is written, and what is after it
pub members-preserved : goal.members-preserved
members-preserved g c =
    let left = c.members.left.now in
    let is = c.in-Some.ensures.cases.0 in (
      λ p.
          let so_far = c.members.invariant.0 p in
          let leaf = c.in_ok-write_word.ensures so_far.wrote.plain (refl {a = true}) in
          leaf_written g.W.Write.write_str_gives c.args.f.now c.members.f c.write_word.new.f c.write_between.new.f
          (begun_members (trees_of (map tree_of c.args.left.now.now))) left c.in-Some.others.now c.in-Some.first.now is
          c.in-None.ensures.group so_far leaf (c.in_ok-write_between-in-None.ensures leaf.plain (refl {a = true})),
      omega (arith, c.members.invariant.1, others_smaller left c.in-Some.others.now c.in-Some.first.now is),
    )
