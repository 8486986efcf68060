use Rattle.std.proofs.Common.{◌≡◌, ◌∙◌, ap, map, reverse, ◌++◌}
use Rattle.std.proofs.lemmas.Result.{IfOk-weaker}
use Rattle.cargo_platform.specs.Trees.{value_of}
use Rattle.cargo_platform.specs.Facts.{pair_of}
use Rattle.exact_answers.specs.Inside.Paths.{taken, turn_of}
use Rattle.exact_answers.proofs.OnPath.{all_pairs, all_unmarked}
use Rattle.exact_answers.proofs.path.Path.facts.Goals as goal

pub returns-clause-pairs : goal.returns-clause-pairs
returns-clause-pairs c =
    let same : c.deref.result.now ≡ c.args.self.now.splits.items = cc in
    IfOk-weaker c.with_copies.result _ _
    (λ all is. all_pairs (map value_of all.items) (map value_of c.in_ok-taken.taken.items)
    (map value_of c.args.self.now.known.now.facts.now) is
    ∙ ap (λ ps. ps ++ map pair_of (map value_of c.args.self.now.known.now.facts.now))
    (c.in_ok-taken.ensures.pairs ∙ ap (λ ss. taken (reverse (map turn_of ss))) (c.in_ok-splits.ensures ∙ same)))
    c.with_copies.ensures

pub returns-clause-unmarked : goal.returns-clause-unmarked
returns-clause-unmarked c =
    IfOk-weaker c.with_copies.result _ _
    (λ all is. all_unmarked (map value_of all.items) (map value_of c.in_ok-taken.taken.items)
    (map value_of c.args.self.now.known.now.facts.now) is c.in_ok-taken.ensures.unmarked)
    c.with_copies.ensures
