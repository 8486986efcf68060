use Rattle.exact_answers.proofs.outlook.joined.Goals as goal

pub returns : goal.returns
returns c = λ table l a b f g.
    (c.joined_sets-sets.ensures l a b f.0 g.0, c.joined_seen-seen.ensures table a b f.1 g.1)
