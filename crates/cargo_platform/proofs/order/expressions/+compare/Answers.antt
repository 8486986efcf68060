use Rattle.std.proofs.Common.{rules, ◌≡◌, sym, ap, ◌∙◌, [], ◌∷◌, ◌++◌, length, arith}
use Rattle.std.specs.Ordering.{is_eq}
use Rattle.std.proofs.lemmas.Slice.Zip.{zip_end}
use Rattle.cargo_platform.proofs.Members.{ended}
use Rattle.cargo_platform.proofs.LastMembers.{last_decides, front_decides}
use Rattle.cargo_platform.proofs.order.expressions.+compare.Goals as goal

-- one of the lists has ended
pub compare_members-returns : goal.compare_members-returns
compare_members-returns t c =
    let ds = c.args.ds.now in
    let es = c.args.es.now in
    let gone = zip_end ds es c.loop-d.yielded c.into_iter-d-iterator.result c.loop-d.d-iterator c.next.new.self
    c.next.result (search rules) (search rules) c.loop-d.yielded_by c.in-None.is c.next.ensures.steps in
    c.cmp.ensures ∙ sym (ended ds es (length c.loop-d.yielded) gone) ∙ c.loop-d.invariant

-- the last members are left
pub compare_all_but_last-returns-then-is_eq-clause-order : goal.compare_all_but_last-returns-then-is_eq-clause-order
compare_all_but_last-returns-then-is_eq-clause-order t c =
    let w = c.in-Some-Some in
    let ds = c.args.ds.now in
    let es = c.args.es.now in
    let ds_ends : ds ≡ w.ds_before.now ++ w.d.now ∷ [] = cc (w.ensures.cases.0) in
    let es_ends : es ≡ w.es_before.now ++ w.e.now ∷ [] = cc (w.ensures'.cases.0) in
    last_decides ds es w.ds_before.now w.es_before.now w.d.now w.e.now ds_ends es_ends (omega arith)
    (ap is_eq (sym c.compare_members-order.ensures) ∙ sym c.is_eq.ensures ∙ c.if-is_eq.true)

pub compare_all_but_last-returns-else-is_eq-clause-order : goal.compare_all_but_last-returns-else-is_eq-clause-order
compare_all_but_last-returns-else-is_eq-clause-order t c =
    let w = c.in-Some-Some in
    let ds = c.args.ds.now in
    let es = c.args.es.now in
    let ds_ends : ds ≡ w.ds_before.now ++ w.d.now ∷ [] = cc (w.ensures.cases.0) in
    let es_ends : es ≡ w.es_before.now ++ w.e.now ∷ [] = cc (w.ensures'.cases.0) in
    c.compare_members-order.ensures
    ∙ front_decides ds es w.ds_before.now w.es_before.now w.d.now w.e.now ds_ends es_ends (omega arith)
    (ap is_eq (sym c.compare_members-order.ensures) ∙ sym c.is_eq.ensures ∙ c.if-is_eq.false)
