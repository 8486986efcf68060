-- A text has at most one fault.
use Rattle.std.proofs.Common.{◌≡◌, refl, sym, ◌∙◌, ℕ, Bool, true, false, List, ◌++◌, None, arith, length}
use Rattle.std.proofs.Common.{take, drop}
use Rattle.std.proofs.Math.Seq.{take-append_seam, drop-append_seam}
use Rattle.std.specs.List.{last_or}
use Rattle.std.proofs.lemmas.Option.{same_Some}
use Rattle.cargo_platform.specs.Tokens.{Placed}
use Rattle.cargo_platform.specs.Cut.{lexemes}
use Rattle.cargo_platform.specs.Spelling.{Grammar}
use Rattle.cargo_platform.specs.Faults.{Fault, fault_of, IsRefused}
use Rattle.cargo_platform.proofs.OneCut.{one_cut_from}
use Rattle.cargo_platform.proofs.Paths.{one_behind}

-- two prefixes of one list that are as long are the same
same_prefix : (prefix after longer others : List Placed) → prefix ++ after ≡ longer ++ others
    → length prefix ≡ length longer → (prefix ≡ longer) × (after ≡ others)
same_prefix prefix after longer others h len = (
  sym (take-append_seam prefix after) ∙ (λ i. take (len i) (h i)) ∙ take-append_seam longer others,
  sym (drop-append_seam prefix after) ∙ (λ i. drop (len i) (h i)) ∙ drop-append_seam longer others,
)

same_truth : (a b : Bool) → (a ≡ true → b ≡ true) → (b ≡ true → a ≡ true) → a ≡ b
same_truth true b f g = sym (f refl)
same_truth false true f g = g refl
same_truth false false f g = refl

-- two faults of a text are after the same prefix, which is accepted or not, and before the same item
pub one_place : (g : Grammar) (text : List ℕ) (e f : Fault) (p : IsRefused g text e) (q : IsRefused g text f)
    → (p.prefix ≡ q.prefix) × (p.accepted ≡ q.accepted) × (p.next ≡ q.next)
one_place g text e f p q =
    let cut = one_cut_from text p.ts q.ts 0 p.tail q.tail p.cut q.cut in
    let parts : p.prefix ++ p.after ≡ q.prefix ++ q.after = sym p.is_prefix.parts ∙ cut.0 ∙ q.is_prefix.parts in
    let no_longer = q.is_prefix.longest p.prefix p.after (sym cut.0 ∙ p.is_prefix.parts) p.is_prefix.completable in
    let no_shorter = p.is_prefix.longest q.prefix q.after (cut.0 ∙ q.is_prefix.parts) q.is_prefix.completable in
    let same = same_prefix p.prefix p.after q.prefix q.after parts (omega (arith, no_longer, no_shorter)) in
    let accepted : p.accepted ≡ q.accepted =
    same_truth p.accepted q.accepted (λ h. q.is_accepted.1 (rw (← same.0) (p.is_accepted.0 h)))
    (λ h. p.is_accepted.1 (rw same.0 (q.is_accepted.0 h))) in (
      same.0,
      accepted,
      one_behind text 0 p.place q.place q.prefix p.next q.next (rw (← same.0) p.follows) q.follows,
    )

-- a text has at most one fault
pub one_fault : (g : Grammar) (text : List ℕ) (e f : Fault) → IsRefused g text e → IsRefused g text f → e ≡ f
one_fault g text e f p q =
    let same = one_place g text e f p q in
    same_Some _ _
    (sym p.is_fault ∙ (λ i. fault_of g text (same.1 i) (last_or None (lexemes (same.0 i))) (same.2 i)) ∙ q.is_fault)
