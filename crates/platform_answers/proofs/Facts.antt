-- Facts, and the lines that spell them.
use Rattle.std.proofs.Common.{◌≡◌, ◌≤◌, ◌<◌, ◌+◌, ◌-◌, ◌∙◌, ℕ, List, [], ◌∷◌, length, get_or, take, drop}
use Rattle.std.proofs.Common.{sym, ap, subst, arith, length-drop, length-take}
use Rattle.std.proofs.Common.{inl, inr, Result, Ok, Err, Vec}
use Rattle.std.specs.declared.alloc.Global.{Global}
use Rattle.std.specs.Result.{IfErr, IsErrAnd}
use Rattle.std.proofs.lemmas.List.{get_or-drop, get_or-take}
use Rattle.cargo_platform.specs.declared.cfg.Cfg.{Cfg}
use Rattle.cargo_platform.specs.declared.error.ParseError.{ParseError}
use Rattle.cargo_platform.specs.declared.fact_lines.FactsError.{FactsError}
use Rattle.cargo_platform.specs.declared.fact_lines.FactsError.TheVariants as facts
use Rattle.cargo_platform.specs.Trees.{CfgValue, Condition}
use Rattle.cargo_platform.specs.Platforms.{IsConditionText, IsRefusedCondition}
use Rattle.cargo_platform.specs.Spelling.{Values}
use Rattle.cargo_platform.specs.Faults.{IsRefused}
use Rattle.cargo_platform.specs.FactLines as lines
use Rattle.cargo_platform.specs.FactLines.{IsFirstNoFact}
use Rattle.cargo_platform.specs.Errors.{orig_of, fault_in}
use Rattle.cargo_platform.proofs.FactLines.{none_refused}
use Rattle.platform_answers.specs.declared.answering.Refusal.{Refusal}
use Rattle.platform_answers.specs.declared.answering.Refusal.TheVariants.{Line, Memory}
use Rattle.platform_answers.specs.Lines.{lines_of, line_at, fact_lines}
use Rattle.platform_answers.specs.Answering.{SpellFacts, SpellsNoCondition, SpellsNoFact, IsRefusedFact, IsRefusedLine}
use Rattle.platform_answers.specs.Answering.{IsLeast, IsFactFault, IsLineFault, IsQuery, IfLine}

-- the lines after the first two, where each of these is split off
pub behind_two : (ls others rest : List (List ℕ)) → others ≡ drop 1 ls → rest ≡ drop 1 others → rest ≡ fact_lines ls
behind_two [] others rest e f = f ∙ ap (drop 1) e
behind_two (l ∷ ls) others rest e f = f ∙ ap (drop 1) e

-- the line of a fact, among the facts' lines
pub fact_line : (ls : List (List ℕ)) (i : ℕ) → get_or (fact_lines ls) i [] ≡ line_at ls (i + 3)
fact_line ls i = let at : 2 + i ≡ (i + 3) - 1 = omega arith in get_or-drop 2 ls i [] ∙ ap (λ k. get_or ls k []) at

-- the facts before it are spelled, so it is the first that is refused
pub first_fact : (ls : List (List ℕ)) (facts : List CfgValue) (i n : ℕ) → SpellFacts (take i (fact_lines ls)) facts
    → i < length (fact_lines ls)
    → SpellsNoFact (get_or (fact_lines ls) i []) → n ≡ i + 3 → IsLeast (IsRefusedFact ls) n
first_fact ls facts i n h l none e =
    let long : length (fact_lines ls) ≡ length ls - 2 = length-drop 2 ls in
    let P : List ℕ → Type 0 = λ text. SpellsNoFact text in (
      (omega arith, omega arith, subst P (fact_line ls i ∙ ap (line_at ls) (sym e)) none),
      λ m before refused.
          let k : ℕ = m - 3 in
          let below : k < i = omega arith in
          let short : k < length (take i (fact_lines ls)) = omega (arith, length-take i (fact_lines ls)) in
          let number : k + 3 ≡ m = omega arith in
          let same : get_or (take i (fact_lines ls)) k [] ≡ line_at ls m = get_or-take i (fact_lines ls) k [] below
          ∙ fact_line ls k ∙ ap (line_at ls) number in
          none_refused (take i (fact_lines ls)) facts k h short (subst P (sym same) refused.2),
    )

-- a statement about a refused line of facts
pub refused_line_of : (text : List ℕ) (r : Result (Vec Cfg Global) FactsError) (n : ℕ) (e : ParseError)
    → lines.IfLine r (λ n e. IsFirstNoFact (lines_of text) n)
    → lines.IfLine r (λ n e. orig_of e ≡ line_at (lines_of text) n)
    → lines.IfLine r (λ n e. IsRefused Values (line_at (lines_of text) n) (fault_in e))
    → r ≡ Err (facts.Line n e)
    → IsFirstNoFact (lines_of text) n × IsFactFault (line_at (lines_of text) n) (orig_of e) (fault_in e)
refused_line_of text r n e refused orig fault is =
    let P = λ (x : Result (Vec Cfg Global) FactsError). lines.IfLine x (λ n e. IsFirstNoFact (lines_of text) n) in
    let Q = λ (x : Result (Vec Cfg Global) FactsError). lines.IfLine x (λ n e. orig_of e ≡ line_at (lines_of text) n) in
    let R = λ (x : Result (Vec Cfg Global) FactsError). lines.IfLine x
    (λ n e. IsRefused Values (line_at (lines_of text) n) (fault_in e)) in
    (subst P is refused, (subst Q is orig, subst R is fault))

pub number_moved : (ls : List (List ℕ)) (n : ℕ) (e : ParseError)
    → IsFirstNoFact ls n × IsFactFault (line_at ls n) (orig_of e) (fault_in e)
    → IsFirstNoFact ls (n + 2 - 2) × IsFactFault (line_at ls (n + 2 - 2)) (orig_of e) (fault_in e)
number_moved ls n e h =
    let same : n ≡ n + 2 - 2 = omega arith in
    subst (λ k. IsFirstNoFact ls k × IsFactFault (line_at ls k) (orig_of e) (fault_in e)) same h

-- the number of a refused fact is 2 more than that among the facts
pub first_fact_of : (r : Refusal) (ls others : List (List ℕ)) → others ≡ fact_lines ls
    → IfLine r (λ n orig fault. IsFirstNoFact others (n - 2) × IsFactFault (line_at others (n - 2)) orig fault)
    → IfLine r (λ n orig fault. IsLeast (IsRefusedFact ls) n × IsFactFault (line_at ls n) orig fault)
first_fact_of (Line n e) ls others same refused =
    let P : List (List ℕ) → Type 0 = λ fs. IsFirstNoFact fs (n - 2)
    × IsFactFault (line_at fs (n - 2)) (orig_of e) (fault_in e) in
    let h = subst P same refused in
    let one : 1 ≤ n - 2 = h.0.numbered.0 in
    let within : n - 2 ≤ length (fact_lines ls) = h.0.numbered.1 in
    let i : ℕ = (n - 2) - 1 in
    let number : i + 3 ≡ n = omega arith in
    let Q : List ℕ → Type 0 = λ t. IsFactFault t (orig_of e) (fault_in e) in (
      first_fact ls h.0.before.0 i n h.0.before.1 (omega arith) h.0.here (sym number),
      subst Q (fact_line ls i ∙ ap (line_at ls) number) h.1,
    )
first_fact_of (Memory e) ls others same refused = tt

pub no_line_before : (ls : List (List ℕ)) (m : ℕ) → m < 1 → IsRefusedLine ls m → ⊥
no_line_before ls m before (inl one) = absurd (omega arith)
no_line_before ls m before (inr fact) = absurd (omega arith)

-- line 1 is the first of all
pub first_line : (r : Refusal) (ls : List (List ℕ))
    → IfLine r
    (λ n orig fault. (n ≡ 1) × SpellsNoCondition (line_at ls 1) × IsRefusedCondition (line_at ls 1) orig fault)
    → IfLine r (λ n orig fault. IsLeast (IsRefusedLine ls) n × IsLineFault ls n orig fault)
first_line (Line n e) ls refused =
    ((inl (refused.0, refused.1), λ m before. no_line_before ls m (omega arith)), inl (refused.0, refused.2))
first_line (Memory e) ls refused = tt

pub not_before : (ls : List (List ℕ)) (p : Condition) (n m : ℕ) → IsConditionText (line_at ls 1) p
    → IsLeast (IsRefusedFact ls) n → m < n → IsRefusedLine ls m → ⊥
not_before ls p n m v least before (inl one) = one.1 p v
not_before ls p n m v least before (inr fact) = least.1 m before fact

-- a refused fact is the first where line 1 is spelled
pub after_first : (r : Refusal) (ls : List (List ℕ)) (p : Condition) → IsConditionText (line_at ls 1) p
    → IfLine r (λ n orig fault. IsLeast (IsRefusedFact ls) n × IsFactFault (line_at ls n) orig fault)
    → IfLine r (λ n orig fault. IsLeast (IsRefusedLine ls) n × IsLineFault ls n orig fault)
after_first (Line n e) ls p v refused =
    ((inr refused.0.0, λ m before. not_before ls p n m v refused.0 before), inr (refused.0.0.0, refused.1))
after_first (Memory e) ls p v refused = tt

-- no line of a query is refused
pub no_refused_line : (ls : List (List ℕ)) (p : Condition) (facts : List CfgValue) (n : ℕ) → IsQuery ls p facts
    → IsRefusedLine ls n → ⊥
no_refused_line ls p facts n query (inl one) = one.1 p query.first
no_refused_line ls p facts n query (inr fact) =
    let P : List ℕ → Type 0 = λ text. SpellsNoFact text in
    let k : ℕ = n - 3 in
    let number : k + 3 ≡ n = omega arith in
    let short : k < length (fact_lines ls) = omega (arith, length-drop 2 ls) in
    none_refused (fact_lines ls) facts k query.others short
    (subst P (sym (fact_line ls k ∙ ap (line_at ls) number)) fact.2)

-- a statement about a refusal that is passed on
pub passed_on : {A : Type 0} (P : Refusal → Type 0) (result : Result A Refusal) (r : Refusal)
    → IsErrAnd result (λ x. x ≡ r) → P r → IfErr result P
passed_on P (Ok a) r h p = tt
passed_on P (Err x) r h p = subst P (sym h) p
