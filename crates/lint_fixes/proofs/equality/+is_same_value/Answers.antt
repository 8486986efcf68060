use Rattle.std.proofs.Common.{◌≡◌, true, ◌+◌, ◌<◌, ◌≤◌, length, List, [], ◌∷◌, ◌++◌, arith, refl, sym, ap, ◌∙◌}
use Rattle.std.proofs.Common.{append_assoc, append-nil, string_bytes, Option, Some, None, is_some, false, not, Bor}
use Rattle.std.proofs.Common.{String, Global, string_eq}
use Rattle.std.proofs.lemmas.List.{map_more, take_all}
use Rattle.std.specs.Map.Iter.{TakesFirst, deref_pair}
use Rattle.std.proofs.lemmas.Slice.Eq.{bytes_eq-Decides}
use Rattle.std.proofs.lemmas.Bool.{true≢false}
use Rattle.toml.specs.declared.value.Value.{Value}
use Rattle.toml.specs.View.{view, items_of, members_view}
use Rattle.toml.proofs.Views.{Entry, members_view-last}
use Rattle.lint_fixes.proofs.equality.+is_same_value.Goals as goal

pub are_same_items-loop-i-init : goal.are_same_items-loop-i-init
are_same_items-loop-i-init t c = refl

pub are_same_items-loop-i-preserved : goal.are_same_items-loop-i-preserved
are_same_items-loop-i-preserved t c =
    let h : c.loop-i.i < length c.args.a.now = omega arith in
    let k : c.loop-i.i < length c.args.b.now = omega arith in
    let one = map_more view c.args.a.now c.loop-i.i c.index-a-i.result h in
    let other = map_more view c.args.b.now c.loop-i.i c.index-b-i.result k in
    let same : view c.index-a-i.result ≡ view c.index-b-i.result = c.is_same_value.ensures
    c.if-not-is_same_value.false in
    one ∙ (cc) ∙ sym other

pub are_same_items-returns : goal.are_same_items-returns
are_same_items-returns t c = λ yes.
    let h : length c.args.a.now ≤ c.loop-i.i = omega arith in
    let k : length c.args.b.now ≤ c.loop-i.i = omega arith in
    ap items_of (rw (take_all c.loop-i.i c.args.a.now h, take_all c.loop-i.i c.args.b.now k) at c.loop-i.invariant)

pub are_same_members-loop-name-init : goal.are_same_members-loop-name-init
are_same_members-loop-name-init t c = (
  [],
  [],
  cc (c.iter-name-items.ensures.rest),
  cc
      (c.iter-others.ensures.rest),
  refl,
)

exact_string : (a b : String Global) → string_eq a b ≡ true → string_bytes a ≡ string_bytes b
exact_string a b h = (bytes_eq-Decides (string_bytes a) (string_bytes b)).0 h

pub are_same_members-loop-name-preserved : goal.are_same_members-loop-name-preserved
are_same_members-loop-name-preserved t c =
    let e : Entry = (c.in-Some.name.now, c.in-Some.member.now) in
    let f : Entry = (c.in-Some-next.other_name.now, c.in-Some-next.other.now) in
    let (done, more, mine, others, same) = c.loop-name.invariant in
    let names : string_bytes e.0 ≡ string_bytes f.0 = exact_string e.0 f.0 (sym c.eq.ensures ∙ c.if-eq.true) in
    let values : view e.1 ≡ view f.1 = c.is_same_value.ensures c.if-is_same_value.true in (
      done ++ e ∷ [],
      more ++ f ∷ [],
      mine ∙ ap (λ es. done ++ es) c.in-Some.ensures.steps ∙ sym (append_assoc done (e ∷ []) c.next.new.self),
      others ∙ ap (λ es. more ++ es) c.in-Some-next.ensures.steps ∙ sym (append_assoc more
          (f ∷ []) c.next-in-loop-name.new.self),
      members_view-last done e.0 e.1 ∙ (cc) ∙ sym (members_view-last more f.0 f.1),
    )

ended : (r : Option (Bor (String Global) × Bor Value)) (left new : List Entry) → TakesFirst deref_pair left r new
    → is_some r ≡ false → left ≡ []
ended None left new step none = step.0
ended (Some x) left new step none = absurd (true≢false none)

pub are_same_members-returns : goal.are_same_members-returns
are_same_members-returns t c = λ yes.
    let (done, more, mine, others, same) = c.loop-name.invariant in
    let none : is_some c.next-2.result ≡ false = c.is_none.ensures ∙ ap not yes in
    let left : c.loop-name.others ≡ [] = ended c.next-2.result c.loop-name.others c.next-2.new.self
    c.next-2.ensures.steps none in
    let all : c.args.a.now.entries ≡ done = mine ∙ ap (λ es. done ++ es) c.in-None.ensures.steps.0 ∙ append-nil done in
    let all-2 : c.args.b.now.entries ≡ more = others ∙ ap (λ es. more ++ es) left ∙ append-nil more in
    ap members_view all ∙ same ∙ sym (ap members_view all-2)
