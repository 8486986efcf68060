use Rattle.std.proofs.Common.{◌∙◌, refl, true, map}
use Rattle.cargo_platform.specs.Trees.{tree_of, trees_of}
use Rattle.cargo_platform.specs.Inside.Printing.{ending, ending_last, closed}
use Rattle.cargo_platform.proofs.Printing.{list_ends, end_written, all_ends_written}
use Rattle.cargo_platform.proofs.display.write_ends.Goals as goal

pub returns-in_default-members_of : goal.returns-in_default-members_of
returns-in_default-members_of g c = λ p _.
    all_ends_written g.W.Write.write_str_gives c.args.f.now c.levels.f (closed (ending (tree_of c.args.e.now)))
    (ending_last (trees_of (map tree_of c.levels.left.now))) (c.levels.invariant p)
    (list_ends _ _ _ c.in-Some.ensures.cases.0 ∙ c.in_default-members_of.ensures.ending)

pub levels-preserved : goal.levels-preserved
levels-preserved g c = λ p.
    let so_far = c.levels.invariant p in
    end_written g.W.Write.write_str_gives c.args.f.now c.levels.f c.write_str.new.self
    (closed (ending (tree_of c.args.e.now))) (ending_last (trees_of (map tree_of c.levels.left.now)))
    (ending_last (trees_of (map tree_of c.in-Some-members_of.members.now))) so_far
    (c.in_ok-write_str.ensures.writes so_far.wrote.plain (refl {a = true}))
    (list_ends _ _ _ c.in-Some.ensures.cases.0 ∙ c.in-Some-members_of.ensures.ending)
