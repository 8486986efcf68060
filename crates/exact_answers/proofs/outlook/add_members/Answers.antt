use Rattle.std.proofs.Common.{◌≡◌, ◌∙◌, refl, ap, ◌∷◌, [], ◌++◌, map}
use Rattle.cargo_platform.specs.Trees.{tree_of, trees_of}
use Rattle.exact_answers.specs.Asking.{some_asks}
use Rattle.exact_answers.proofs.Adding.{member_met, member_size, pushed_asks, first_asked, last_asked}
use Rattle.exact_answers.proofs.outlook.add_members.Goals as goal

pub members-preserved : goal.members-preserved
members-preserved c =
    let left = c.members.left.now in
    let others = c.in-Some.others.now in
    let e = c.in-Some.e.now in
    let gs = c.members.pending.items in
    let new = c.push.new.self.items in
    let is : left ≡ others ++ e ∷ [] = c.in-Some.ensures.cases.0 in
    let more = c.in_ok-push.ensures.items in
    record {
      met = λ s. member_met s c.args.wanted left others e gs new _ _ is more refl (c.members.invariant.met s);
      size = member_size left others e gs new _ _ is more refl c.members.invariant.size;
      within = λ p h. c.members.invariant.within p
          (ap (λ es. some_asks (trees_of (map tree_of es)) p) is ∙ first_asked others e p h);
      asked = λ among asks all. pushed_asks among gs new _ more
          (λ p h. asks p (c.members.invariant.within p
          (ap (λ es. some_asks (trees_of (map tree_of es)) p) is ∙ last_asked others e p h)))
          (c.members.invariant.asked among asks all);
    }
