-- Texts keep their places in a string when others are appended to it, and the order of places is total.
use Rattle.std.proofs.Common.{◌≡◌, refl, sym, ap, ◌∙◌, subst, ℕ, ◌-◌, ◌≤◌, Bool, true, false, ◌&&◌, ◌||◌, inl, inr}
use Rattle.std.proofs.Common.{List, [], ◌++◌, length, take, drop, get_or, length-append, length-drop, arith, IsUtf8}
use Rattle.std.specs.Prelude.{nat_le, nat_lt, slice_range, slice_index, if◌then◌else◌}
use Rattle.std.specs.Str.{IsCharBoundary}
use Rattle.std.proofs.Math.ListN.{get_or-append}
use Rattle.std.proofs.Math.Seq.{drop-append_seam, get_or-append_right}
use Rattle.std.proofs.lemmas.Bool.{and_parts, and_from, or_cases, cases_lt, leb-true, le-leb, ltb-true, lt-ltb}
use Rattle.std.proofs.lemmas.List.{drop-append-le, take-append-le, take_all}
use Rattle.std.proofs.lemmas.Str.{IsCharBoundary-start, IsCharBoundary-end}
use Rattle.cargo_platform.specs.declared.places.Place.{Place}
use Rattle.cargo_platform.specs.Places.{is_boundary, is_place, text_at, HasText, KeepsTexts}

-- ---- positions

boundary_means : (text : List ℕ) (i : ℕ) → is_boundary text i ≡ true → IsCharBoundary text i
boundary_means text i h =
    let b = slice_index text i in
    let parts = and_parts (nat_le i (length text)) (nat_le (length text) i || (nat_lt b 128 || nat_le 192 b)) h in (
      leb-true i (length text) parts.0,
      λ below wide. elim (or_cases (nat_le (length text) i) (nat_lt b 128 || nat_le 192 b) parts.1) [
        | inl end ↦ absurd (omega (arith, leb-true (length text) i end, below))
        | inr byte ↦ elim (or_cases (nat_lt b 128) (nat_le 192 b) byte) [
          | inl small ↦ absurd (omega (arith, ltb-true b 128 small, wide))
          | inr first ↦ leb-true 192 b first
        ]
      ],
    )

or_first : (a b : Bool) → a ≡ true → (a || b) ≡ true
or_first a b h = ap (λ v. v || b) h

or_second : (a b : Bool) → b ≡ true → (a || b) ≡ true
or_second true b h = refl
or_second false b h = h

boundary_holds : (text : List ℕ) (i : ℕ) → IsCharBoundary text i → is_boundary text i ≡ true
boundary_holds text i h =
    let b = slice_index text i in
    and_from (nat_le i (length text)) (nat_le (length text) i || (nat_lt b 128 || nat_le 192 b))
    (le-leb i (length text) h.0)
    (elim (cases_lt i (length text)) [
      | inr end ↦ or_first (nat_le (length text) i) (nat_lt b 128 || nat_le 192 b) (le-leb (length text) i end)
      | inl below ↦ or_second (nat_le (length text) i) (nat_lt b 128 || nat_le 192 b) (elim (cases_lt b 128) [
        | inl small ↦ or_first (nat_lt b 128) (nat_le 192 b) (lt-ltb b 128 small)
        | inr wide ↦ or_second (nat_lt b 128) (nat_le 192 b) (le-leb 192 b (h.1 below wide))
      ])
    ])

-- a position stays one when a text is appended
boundary_kept : (old text : List ℕ) (i : ℕ) → IsUtf8 text → IsCharBoundary old i → IsCharBoundary (old ++ text) i
boundary_kept old text i utf8 h = (
  omega (arith, h.0, length-append old text),
  λ below wide. elim (cases_lt i (length old)) [
    | inl inside ↦
        let same = get_or-append old text 0 i inside in
        omega (arith, same, h.1 inside (omega (arith, same, wide)))
    | inr end ↦
        let at : i - length old ≡ 0 = omega (arith, h.0) in
        let same = get_or-append_right old text i 0 end ∙ ap (λ k. get_or text k 0) at in
        omega (
          arith,
          same,
          (IsCharBoundary-start text utf8).1 (omega (arith, length-append old text, below, end, h.0))
              (omega (arith, same, wide)),
        )
  ],
)

-- ---- places

record IsPlace (texts : List ℕ) (p : Place) : Type 0 where
  ordered : p.start ≤ p.end
  begins : IsCharBoundary texts p.start
  ends : IsCharBoundary texts p.end

place_means : (texts : List ℕ) (p : Place) → is_place texts p ≡ true → IsPlace texts p
unfolding is_place
place_means texts p h =
    let first = and_parts (nat_le p.start p.end) (is_boundary texts p.start && is_boundary texts p.end) h in
    let second = and_parts (is_boundary texts p.start) (is_boundary texts p.end) first.1 in
    record {
      ordered = leb-true p.start p.end first.0;
      begins = boundary_means texts p.start second.0;
      ends = boundary_means texts p.end second.1;
    }

place_holds : (texts : List ℕ) (p : Place) → IsPlace texts p → is_place texts p ≡ true
unfolding is_place
place_holds texts p h =
    and_from (nat_le p.start p.end) (is_boundary texts p.start && is_boundary texts p.end)
    (le-leb p.start p.end h.ordered)
    (and_from (is_boundary texts p.start) (is_boundary texts p.end) (boundary_holds texts p.start h.begins)
    (boundary_holds texts p.end h.ends))

text_there : (texts : List ℕ) (p : Place) → is_place texts p ≡ true → text_at texts p ≡ slice_range texts p.start p.end
unfolding text_at
text_there texts p h = ap (λ b. if b then slice_range texts p.start p.end else []) h

slice_kept : (old text : List ℕ) (i j : ℕ) → i ≤ j → j ≤ length old
    → slice_range (old ++ text) i j ≡ slice_range old i j
slice_kept old text i j ordered inside =
    ap (take (j - i)) (drop-append-le i old text (omega (arith, ordered, inside)))
    ∙ take-append-le (j - i) (drop i old) text (omega (arith, ordered, inside, length-drop i old))

slice_new : (old text : List ℕ) (i j : ℕ) → i ≡ length old → j ≡ length (old ++ text)
    → slice_range (old ++ text) i j ≡ text
slice_new old text i j start end =
    ap (λ k. take (j - k) (drop k (old ++ text))) start
    ∙ ap (take (j - length old)) (drop-append_seam old text)
    ∙ take_all (j - length old) text (omega (arith, end, length-append old text))

pub text_appended : (old text : List ℕ) (p : Place) → IsUtf8 text → p.start ≡ length old
    → p.end ≡ length (old ++ text) → HasText (old ++ text) p text
text_appended old text p utf8 start end =
    let is = place_holds (old ++ text) p (record {
      ordered = omega (arith, start, end, length-append old text);
      begins = boundary_kept old text p.start utf8 (subst (IsCharBoundary old) (sym start) (IsCharBoundary-end old));
      ends = subst (IsCharBoundary (old ++ text)) (sym end) (IsCharBoundary-end (old ++ text));
    }) in
    record { is_in = is; text_is = text_there (old ++ text) p is ∙ slice_new old text p.start p.end start end }

pub texts_kept : (old text : List ℕ) → IsUtf8 text → KeepsTexts old (old ++ text)
texts_kept old text utf8 = record {
  kept = λ p is.
      let w = place_means old p is in
      let new = place_holds (old ++ text) p (record {
        ordered = w.ordered;
        begins = boundary_kept old text p.start utf8 w.begins;
        ends = boundary_kept old text p.end utf8 w.ends;
      }) in
      record {
        is_in = new;
        text_is = text_there (old ++ text) p new ∙ slice_kept old text p.start p.end w.ordered w.ends.0
            ∙ sym (text_there old p is);
      };
}
