use Rattle.std.proofs.Common.{◌≡◌, refl, ap, ◌∙◌, ◌∷◌, map}
use Rattle.cargo_platform.specs.Tokens.{RightParen}
use Rattle.cargo_platform.specs.Trees.{tree_of}
use Rattle.cargo_platform.specs.Spelling.{Expressions}
use Rattle.cargo_platform.specs.Walk.{Listed, list_tree, Wanting, WithTree}
use Rattle.cargo_platform.specs.Inside.Parsing.{opening, stack, is_all}
use Rattle.cargo_platform.proofs.Parsing.{reads_taken, list_clear}
use Rattle.cargo_platform.proofs.parser.end_list.Goals as goal

pub returns-else-not-eat-clause-closed : goal.returns-else-not-eat-clause-closed
returns-else-not-eat-clause-closed c =
    let l = c.args.reader.now.ahead in
    let m = c.eat.new.self.ahead in
    let gs = stack c.pop.new.self in
    let all = is_all c.in-Some-List.word in
    let es = map tree_of c.in-Some-List.members.items in
    let was : stack c.args.groups.now ≡ Listed all es ∷ gs = c.in-Some-List.ensures
    ∙ ap (λ z. opening z ∷ gs) c.in-Some-List.field-0-is in
    rw c.close_list.ensures
    (rw was
    (reads_taken Expressions l m RightParen (Wanting (Listed all es ∷ gs)) (WithTree (list_tree all es) gs)
    (c.eat.ensures.taken c.if-not-eat.false) refl))

pub returns-else-not-eat-clause-clear : goal.returns-else-not-eat-clause-clear
returns-else-not-eat-clause-clear c =
    rw c.close_list.ensures (list_clear (is_all c.in-Some-List.word) _ c.eat.new.self.ahead)

pub returns-then-not-eat-clause-not_closed : goal.returns-then-not-eat-clause-not_closed
returns-then-not-eat-clause-not_closed c = let n = c.eat.ensures.not_taken c.if-not-eat.true in (n.0, λ _. n.1)
