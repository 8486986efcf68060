-- An input has at most one output.
use Rattle.std.proofs.Common.{◌≡◌, ◌<◌, ℕ, List, [], ◌∷◌, ◌++◌, sym, ◌∙◌, subst, inl, inr, arith}
use Rattle.cargo_platform.specs.Trees.{CfgValue, Condition}
use Rattle.cargo_platform.specs.Spelling.{Values}
use Rattle.cargo_platform.specs.Faults.{Fault}
use Rattle.cargo_platform.proofs.ConditionFaults.{one_condition_fault}
use Rattle.cargo_platform.proofs.Conditions.{one_condition}
use Rattle.cargo_platform.proofs.OneFault.{one_fault}
use Rattle.cargo_platform.proofs.FactLines.{one_list}
use Rattle.platform_answers.specs.declared.Outcome.{Outcome}
use Rattle.platform_answers.specs.Lines.{lines_of, line_at, fact_lines}
use Rattle.platform_answers.specs.Answering.{IsQuery, IsLineFault, IsAnswerToQuery, IsAnswerToLines}
use Rattle.platform_answers.specs.Answering.{refused_line}
use Rattle.platform_answers.specs.Laws.{HasOneAnswer}
use Rattle.platform_answers.proofs.Facts.{no_refused_line}

-- ---- one fault of a line

one_line_fault : (ls : List (List ℕ)) (n : ℕ) (orig other : List ℕ) (e f : Fault) → IsLineFault ls n orig e
    → IsLineFault ls n other f → (orig ≡ other) × (e ≡ f)
one_line_fault ls n orig other e f (inl a) (inl b) = one_condition_fault (line_at ls 1) orig other e f a.1 b.1
one_line_fault ls n orig other e f (inl a) (inr b) = absurd (omega arith)
one_line_fault ls n orig other e f (inr a) (inl b) = absurd (omega arith)
one_line_fault ls n orig other e f (inr a) (inr b) =
    (a.1.0 ∙ sym b.1.0, one_fault Values (line_at ls n) e f a.1.1 b.1.1)

-- ---- one answer

same_query : (ls : List (List ℕ)) (c d : Condition) (cs ds : List CfgValue) (output other : List ℕ)
    (outcome another : Outcome)
    → IsQuery ls c cs → IsQuery ls d ds → IsAnswerToQuery (line_at ls 2) c cs output outcome
    → IsAnswerToQuery (line_at ls 2) d ds other another → (output ≡ other) × (outcome ≡ another)
same_query ls c d cs ds output other outcome another p q a b =
    let first : c ≡ d = one_condition (line_at ls 1) c d p.first q.first in
    let others : cs ≡ ds = one_list (fact_lines ls) cs ds p.others q.others in
    let P : Condition → List CfgValue → Type 0 = λ x xs. IsAnswerToQuery (line_at ls 2) x xs output outcome in
    let here : P d ds = subst (λ x. P x ds) first (subst (P c) others a) in
    (here.0 ∙ sym b.0, here.1 ∙ sym b.1)

same_lines : (ls : List (List ℕ)) (output other : List ℕ) (outcome another : Outcome)
    → IsAnswerToLines ls output outcome → IsAnswerToLines ls other another → (output ≡ other) × (outcome ≡ another)
same_lines ls output other outcome another (inl a) (inl b) =
    same_query ls a.0 b.0 a.1 b.1 output other outcome another a.2 b.2 a.3 b.3
same_lines ls output other outcome another (inl a) (inr b) = absurd (no_refused_line ls a.0 a.1 b.0 a.2 b.3.0)
same_lines ls output other outcome another (inr a) (inl b) = absurd (no_refused_line ls b.0 b.1 a.0 b.2 a.3.0)
same_lines ls output other outcome another (inr a) (inr b) =
    let above : a.0 < b.0 → ⊥ = λ l. b.3.1 a.0 l a.3.0 in
    let below : b.0 < a.0 → ⊥ = λ l. a.3.1 b.0 l b.3.0 in
    let number : a.0 ≡ b.0 = omega arith in
    let P : ℕ → Type 0 = λ n. IsLineFault ls n a.1 a.2 in
    let same = one_line_fault ls b.0 a.1 b.1 a.2 b.2 (subst P number a.4) b.4 in
    (a.5.0 ∙ (λ i. refused_line (number i) (same.0 i) (same.1 i) ++ 10 ∷ []) ∙ sym b.5.0, a.5.1 ∙ sym b.5.1)

pub one_answer : (bs : List ℕ) → HasOneAnswer bs
one_answer bs output other outcome another (inl a) (inl b) = (a.1.0 ∙ sym b.1.0, a.1.1 ∙ sym b.1.1)
one_answer bs output other outcome another (inl a) (inr (inl b)) = absurd (b.0 a.0)
one_answer bs output other outcome another (inl a) (inr (inr b)) = absurd (b.0 a.0)
one_answer bs output other outcome another (inr (inl a)) (inl b) = absurd (a.0 b.0)
one_answer bs output other outcome another (inr (inl a)) (inr (inl b)) = (a.2.0 ∙ sym b.2.0, a.2.1 ∙ sym b.2.1)
one_answer bs output other outcome another (inr (inl a)) (inr (inr b)) = absurd (a.1 b.1)
one_answer bs output other outcome another (inr (inr a)) (inl b) = absurd (a.0 b.0)
one_answer bs output other outcome another (inr (inr a)) (inr (inl b)) = absurd (b.1 a.1)
one_answer bs output other outcome another (inr (inr a)) (inr (inr b)) =
    same_lines (lines_of bs) output other outcome another a.2 b.2
