-- An input has an output.
use Rattle.std.proofs.Common.{◌≡◌, ◌<◌, ◌+◌, ◌∙◌, ◌⊎◌, ℕ, zero, suc, Bool, true, false, List, [], ◌∷◌, ◌++◌}
use Rattle.std.proofs.Common.{codes, length, get_or, take, refl, sym, subst, inl, inr, true≢false, IsUtf8}
use Rattle.std.proofs.Common.{append_assoc, append-nil, arith, lit≤}
use Rattle.std.specs.List.{AllByRecursion}
use Rattle.std.specs.Str.{is_utf8}
use Rattle.std.proofs.lemmas.Bool.{ltb-true, ltb-false}
use Rattle.std.proofs.lemmas.Str.{IsUtf8-nil, IsUtf8-from_is_utf8, is_utf8-from_IsUtf8}
use Rattle.std.proofs.Math.Dec.{ltb}
use Rattle.cargo_platform.specs.Trees.{CfgValue, Condition}
use Rattle.cargo_platform.specs.Spelling.{Values, IsValueText}
use Rattle.cargo_platform.specs.Faults.{Fault, IsRefused}
use Rattle.cargo_platform.specs.Platforms.{IsConditionText}
use Rattle.cargo_platform.proofs.ConditionFaults.{spells_condition_or_is_refused, refused_spells_no_condition}
use Rattle.cargo_platform.proofs.Refused.{refused_spells_no_value}
use Rattle.cargo_platform.proofs.SomeCut.{ascii_sides}
use Rattle.cargo_platform.proofs.SomeFault.{spells_or_is_refused}
use Rattle.platform_answers.specs.declared.Outcome.{Outcome}
use Rattle.platform_answers.specs.declared.Outcome.TheVariants.{Refused}
use Rattle.platform_answers.specs.Reading.{IsTooLong}
use Rattle.platform_answers.specs.Lines.{line, lines_of, line_at, fact_lines}
use Rattle.platform_answers.specs.Answering.{SpellFacts, SpellsNoFact, IsQuery, IsAnswerToLines}
use Rattle.platform_answers.specs.Answering.{is_match, match_outcome, query_text, refused_line}
use Rattle.cargo_platform.specs.Lines.{ended, AreLines}
use Rattle.platform_answers.specs.Laws.{HasAnswer}
use Rattle.platform_answers.proofs.Facts.{fact_line, first_fact, no_line_before, not_before}
use Rattle.cargo_platform.proofs.TextLines.{lines_are}

-- ---- the lines of a text of characters are such texts

ended_texts : (ls : List (List ℕ)) (rest text : List ℕ) → IsUtf8 text → text ≡ ended ls ++ rest
    → AllByRecursion IsUtf8 ls × IsUtf8 rest
ended_texts [] rest text u e = let P : List ℕ → Type 0 = λ z. IsUtf8 z in (tt, subst P e u)
ended_texts (l ∷ ls) rest text u e =
    let after : List ℕ = ended ls ++ rest in
    let begins : text ≡ line l ++ after = e ∙ append_assoc (line l) (ended ls) rest in
    let parts : text ≡ l ++ (10 ∷ after) = begins ∙ append_assoc l (10 ∷ []) after in
    let sides = ascii_sides 10 text l after (lit≤ tt) u parts in
    let others = ended_texts ls rest after sides.1 refl in
    ((sides.0, others.0), others.1)

and_last : (front : List (List ℕ)) (last : List ℕ) → AllByRecursion IsUtf8 front → IsUtf8 last
    → AllByRecursion IsUtf8 (front ++ last ∷ [])
and_last [] last us u = (u, tt)
and_last (l ∷ front) last us u = (us.0, and_last front last us.1 u)

line_texts : (text : List ℕ) (ls : List (List ℕ)) → IsUtf8 text → AreLines text ls → AllByRecursion IsUtf8 ls
line_texts text ls u are =
    elim are.parts [
      | inl e ↦ (ended_texts ls [] text u (e ∙ sym (append-nil (ended ls)))).0
      | inr p ↦
          let both = ended_texts p.0 p.1 text u p.4 in
          let P : List (List ℕ) → Type 0 = λ z. AllByRecursion IsUtf8 z in
          subst P (sym p.2) (and_last p.0 p.1 both.0 both.1)
    ]

nth_text : (ls : List (List ℕ)) (i : ℕ) → AllByRecursion IsUtf8 ls → IsUtf8 (get_or ls i [])
nth_text [] i us = IsUtf8-nil
nth_text (l ∷ ls) zero us = us.0
nth_text (l ∷ ls) (suc i) us = nth_text ls i us.1

fact_texts : (ls : List (List ℕ)) → AllByRecursion IsUtf8 ls → AllByRecursion IsUtf8 (fact_lines ls)
fact_texts [] us = tt
fact_texts (l ∷ []) us = tt
fact_texts (l ∷ m ∷ ls) us = us.1.1

-- ---- the lines are facts, or there is a first one that is refused

record FirstRefused (texts : List (List ℕ)) : Type 0 where
  pub before : List CfgValue
  pub at : ℕ
  pub fault : Fault
  pub spelled : SpellFacts (take at texts) before
  pub within : at < length texts
  pub refused : IsRefused Values (get_or texts at []) fault

-- after a line that is a fact, the first that is refused is the same
later : (t : List ℕ) (texts : List (List ℕ)) (c : CfgValue) → IsValueText t c → FirstRefused texts
    → FirstRefused (t ∷ texts)
later t texts c spelled r = record {
  before = c ∷ r.before;
  at = suc r.at;
  fault = r.fault;
  spelled = (spelled, r.spelled);
  within = omega arith;
  refused = r.refused;
}

facts_or_refused : (texts : List (List ℕ)) → AllByRecursion IsUtf8 texts
    → ((facts : List CfgValue) × SpellFacts texts facts) ⊎ FirstRefused texts
facts_or_refused [] us = inl ([], tt)
facts_or_refused (t ∷ texts) us =
    elim (spells_or_is_refused Values t us.0) [
      | inr f ↦ inr (record { before = []; at = 0; fault = f.0; spelled = tt; within = omega arith; refused = f.1 })
      | inl c ↦ elim (facts_or_refused texts us.1) [
        | inl cs ↦ inl (c.0 ∷ cs.0, (c.1, cs.1))
        | inr r ↦ inr (later t texts c.0 c.1 r)
      ]
    ]

-- ---- the lines have an answer

abbrev HaveAnswer : List (List ℕ) → Type 0
HaveAnswer ls = (output : List ℕ) × (outcome : Outcome) × IsAnswerToLines ls output outcome

refused_fact : (ls : List (List ℕ)) (p : Condition) → IsConditionText (line_at ls 1) p → FirstRefused (fact_lines ls)
    → HaveAnswer ls
refused_fact ls p spelled r =
    let n : ℕ = r.at + 3 in
    let text : List ℕ = get_or (fact_lines ls) r.at [] in
    let none : SpellsNoFact text = λ c s. refused_spells_no_value text r.fault c r.refused s in
    let least = first_fact ls r.before r.at n r.spelled r.within none refl in
    let P : List ℕ → Type 0 = λ z. IsRefused Values z r.fault in (
      line (refused_line n (line_at ls n) r.fault),
      Refused,
      inr (
        n,
        line_at ls n,
        r.fault,
        (inr least.0, λ m before. not_before ls p n m spelled least before),
        inr (omega arith, (refl, subst P (fact_line ls r.at) r.refused)),
        (refl, refl),
      ),
    )

lines_answered : (ls : List (List ℕ)) → AllByRecursion IsUtf8 ls → HaveAnswer ls
lines_answered ls us =
    elim (spells_condition_or_is_refused (line_at ls 1) (nth_text ls 0 us)) [
      | inr r ↦ (
        line (refused_line 1 r.0.0 r.0.1),
        Refused,
        inr (
          1,
          r.0.0,
          r.0.1,
          (
            inl (refl, refused_spells_no_condition (line_at ls 1) r.0.0 r.0.1 r.1),
            λ m before. no_line_before ls m before,
          ),
          inl (refl, r.1),
          (refl, refl),
        ),
      )
      | inl p ↦ elim (facts_or_refused (fact_lines ls) (fact_texts ls us)) [
        | inr r ↦ refused_fact ls p.0 p.1 r
        | inl facts ↦
            let met : Bool = is_match (line_at ls 2) facts.0 p.0 in
            let query : IsQuery ls p.0 facts.0 = record { first = p.1; others = facts.1 } in
            (query_text p.0 met, match_outcome met, inl (p.0, facts.0, query, (refl, refl)))
      ]
    ]

-- ---- the bytes have an answer

short_answer : (bs : List ℕ) → ¬ IsTooLong bs → HasAnswer bs
short_answer bs short =
    elim (is_utf8 bs) as (λ z. is_utf8 bs ≡ z → HasAnswer bs) [
      | true ↦ λ h.
          let u : IsUtf8 bs = IsUtf8-from_is_utf8 bs h in
          let a = lines_answered (lines_of bs) (line_texts bs (lines_of bs) u (lines_are bs)) in
          (a.0, a.1, inr (inr (short, u, a.2)))
      | false ↦ λ h.
          let none : ¬ IsUtf8 bs = λ u. true≢false (sym (is_utf8-from_IsUtf8 bs u) ∙ h) in
          (line (codes "input is not UTF-8"), Refused, inr (inl (short, none, (refl, refl))))
    ] refl

pub some_answer : (bs : List ℕ) → HasAnswer bs
some_answer bs =
    elim (ltb 1_048_576 (length bs)) as (λ z. ltb 1_048_576 (length bs) ≡ z → HasAnswer bs) [
      | true ↦ λ h.
          let long : IsTooLong bs = ltb-true 1_048_576 (length bs) h in
          (line (codes "input is longer than 1048576 bytes"), Refused, inl (long, (refl, refl)))
      | false ↦ λ h. let most = ltb-false 1_048_576 (length bs) h in short_answer bs (λ long. omega (arith, most, long))
    ] refl
