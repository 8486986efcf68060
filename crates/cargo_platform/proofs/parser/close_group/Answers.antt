use Rattle.std.proofs.Common.{◌≡◌, refl, ap, ◌∙◌, [], ◌∷◌, ◌++◌, map}
use Rattle.cargo_platform.specs.Tokens.{RightParen}
use Rattle.cargo_platform.specs.Trees.{Not, tree_of}
use Rattle.cargo_platform.specs.Spelling.{Expressions}
use Rattle.cargo_platform.specs.Walk.{Negated, Listed, list_tree, WithTree}
use Rattle.cargo_platform.specs.Inside.Parsing.{opening, is_all}
use Rattle.cargo_platform.proofs.Parsing.{reads_taken, group_stops, list_clear}
use Rattle.cargo_platform.proofs.parser.close_group.Goals as goal

pub returns-then-not-eat-clause-refused : goal.returns-then-not-eat-clause-refused
returns-then-not-eat-clause-refused c = λ gs.
    let l = c.args.reader.now.ahead in
    let n = c.eat.ensures.not_taken c.if-not-eat.true in
    group_stops l c.eat.new.self.ahead (opening c.args.group) gs (tree_of c.args.last) c.refuse.result n.0 n.1
    c.requires.last c.requires.clear c.refuse.ensures.refused

pub returns-in_ok-negation-in-Not-clause-closed : goal.returns-in_ok-negation-in-Not-clause-closed
returns-in_ok-negation-in-Not-clause-closed c = λ gs.
    let l = c.args.reader.now.ahead in
    let m = c.eat.new.self.ahead in
    let e = tree_of c.args.last in
    rw c.in-Not.is
    (rw c.in_ok-negation-in-Not.ensures
    (reads_taken Expressions l m RightParen (WithTree e (Negated ∷ gs)) (WithTree (Not e) gs)
    (c.eat.ensures.taken c.if-not-eat.false) refl))

pub returns-in_ok-with_member-in-List-clause-closed : goal.returns-in_ok-with_member-in-List-clause-closed
returns-in_ok-with_member-in-List-clause-closed c = λ gs.
    let l = c.args.reader.now.ahead in
    let m = c.eat.new.self.ahead in
    let e = tree_of c.args.last in
    let all = is_all c.in-List.word in
    let es = map tree_of c.in-List.members.items in
    let is : tree_of c.close_list.result ≡ list_tree all (es ++ e ∷ []) = c.close_list.ensures
    ∙ ap (list_tree all) c.in_ok-with_member-in-List.ensures in
    rw c.in-List.is
    (rw is
    (reads_taken Expressions l m RightParen (WithTree e (Listed all es ∷ gs))
    (WithTree (list_tree all (es ++ e ∷ [])) gs) (c.eat.ensures.taken c.if-not-eat.false) refl))

pub returns-in_ok-with_member-in-List-clause-clear : goal.returns-in_ok-with_member-in-List-clause-clear
returns-in_ok-with_member-in-List-clause-clear c =
    rw c.close_list.ensures (list_clear (is_all c.in-List.word) _ c.eat.new.self.ahead)
