use Rattle.std.proofs.Common.{◌≡◌, ◌∷◌, None, length, map}
use Rattle.cargo_platform.specs.Trees.{Tree, tree_of}
use Rattle.cargo_platform.specs.Walk.{list_tree}
use Rattle.partial_facts.specs.Kleene.{kleene}
use Rattle.exact_answers.proofs.opening.unless_settled.Given as goal

-- the members that are passed over leave the group as it was
abbrev pub invariant-members : goal.invariant-members
invariant-members g l =
    (e : Tree) → kleene (g.K.Knowledge.told l.known) e ≡ None
    → kleene (g.K.Knowledge.told l.known) (list_tree l.neutral (e ∷ map tree_of l.left))
    ≡ kleene (g.K.Knowledge.told l.known) (list_tree l.neutral (e ∷ map tree_of l.members))

abbrev pub decreases-members : goal.decreases-members
decreases-members g l = length l.left
