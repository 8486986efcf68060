use Rattle.std.proofs.Common.{◌∙◌, ap, sym, ◌++◌, [], ◌∷◌}
use Rattle.cargo_platform.specs.Trees.{tree_of}
use Rattle.byte_answers.specs.Flat.{numbers, flat, flats_of}
use Rattle.byte_answers.proofs.Flats.{begun, flat-Not, flat-All, flat-Any, flat-True}
use Rattle.byte_answers.proofs.flat.push_node.Goals as goal

pub returns-in_ok-push_numbers-in-Not-clause-flat :
    goal.returns-in_ok-push_numbers-in-Not-clause-flat
returns-in_ok-push_numbers-in-Not-clause-flat c =
    begun c.args.out.now.items c.push_numbers.new.out.items (numbers 1 0 6) (flats_of c.from_ref.result.now)
    (flat (tree_of c.args.e.now)) c.in_ok-push_numbers-in-Not.ensures
    (flat-Not c.args.e.now c.in-Not.inner c.in-Not.is
    ∙ ap (λ z. numbers 1 0 6 ++ flats_of z) (sym (c.from_ref.ensures.value ∙ ap (λ z. z ∷ []) c.deref-negated.ensures)))

pub returns-in_ok-push_numbers-in-All-clause-flat :
    goal.returns-in_ok-push_numbers-in-All-clause-flat
returns-in_ok-push_numbers-in-All-clause-flat c =
    begun c.args.out.now.items c.push_numbers-in-All.new.out.items (numbers c.len.result 0 7)
    (flats_of c.deref.result.now) (flat (tree_of c.args.e.now)) c.in_ok-push_numbers-in-All.ensures
    (flat-All c.args.e.now c.in-All.members c.len.result c.in-All.is c.len.ensures
    ∙ ap (λ z. numbers c.len.result 0 7 ++ flats_of z) (sym c.deref.ensures.value))

pub returns-in_ok-push_numbers-in-Any-clause-flat :
    goal.returns-in_ok-push_numbers-in-Any-clause-flat
returns-in_ok-push_numbers-in-Any-clause-flat c =
    begun c.args.out.now.items c.push_numbers-in-Any.new.out.items (numbers c.len-in-Any.result 0 8)
    (flats_of c.deref-in-Any.result.now) (flat (tree_of c.args.e.now)) c.in_ok-push_numbers-in-Any.ensures
    (flat-Any c.args.e.now c.in-Any.members c.len-in-Any.result c.in-Any.is c.len-in-Any.ensures
    ∙ ap (λ z. numbers c.len-in-Any.result 0 8 ++ flats_of z) (sym c.deref-in-Any.ensures.value))

pub returns-in_ok-push_numbers-in-True-clause-flat :
    goal.returns-in_ok-push_numbers-in-True-clause-flat
returns-in_ok-push_numbers-in-True-clause-flat c =
    begun c.args.out.now.items c.push_numbers-in-True.new.out.items (numbers 0 0 4) []
    (flat (tree_of c.args.e.now)) c.in_ok-push_numbers-in-True.ensures (flat-True c.args.e.now c.in-True.is)
