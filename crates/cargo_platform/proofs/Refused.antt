-- A text with a first fault spells nothing of the grammar.
use Rattle.std.proofs.Common.{◌≡◌, ℕ, refl, sym, ap, ◌∙◌, ◌≤◌, true, List, [], ◌∷◌, ◌++◌, Some, None, append-nil}
use Rattle.std.proofs.Common.{arith, length, length-append}
use Rattle.std.specs.List.{last_or}
use Rattle.cargo_platform.specs.Tokens.{Lexeme, Placed}
use Rattle.cargo_platform.specs.Cut.{IsCut, lexemes, Nothing}
use Rattle.cargo_platform.specs.Trees.{CfgValue, Tree}
use Rattle.cargo_platform.specs.Spelling.{Grammar, Values, Expressions, IsAccepted, IsValueText, IsTreeText}
use Rattle.cargo_platform.specs.Faults.{IsCompletableBy, Fault, fault_of, IsRefusedBy, IsRefused}
use Rattle.cargo_platform.proofs.OneCut.{one_cut_from}
use Rattle.cargo_platform.proofs.Paths.{next_before, behind_is, whole_ends}

-- what is accepted needs no further tokens
accepted_completes : (accepts : List Lexeme → Type 0) (ts : List Lexeme) → accepts ts → IsCompletableBy accepts ts
accepted_completes accepts ts p = ([], tt, rw (append-nil ts) p)

-- nothing is after a prefix that is as long as the list
no_more : (prefix after : List Placed) → length (prefix ++ after) ≤ length prefix → after ≡ []
no_more prefix [] h = refl
no_more prefix (t ∷ after) h = absurd (omega (arith, length-append prefix (t ∷ after)))

none_some : {A : Type 0} {f : Fault} → None ≡ Some f → A
none_some h = absurd cc

-- the tokens of a refused text, where it has an empty tail, are not accepted
pub refused_accepts_none : (accepts : List Lexeme → Type 0) (g : Grammar) (text : List ℕ) (f : Fault) (ts : List Placed)
    → IsRefusedBy accepts g text f → IsCut text ts (length text) → accepts (lexemes ts) → ⊥
refused_accepts_none accepts g text f ts r cut p =
    let same = one_cut_from text r.ts ts 0 r.tail (length text) r.cut cut in
    let whole : accepts (lexemes r.ts) = rw same.0 p in
    let none = no_more r.prefix r.after
    (rw (← r.is_prefix.parts)
    (r.is_prefix.longest r.ts [] (sym (append-nil r.ts)) (accepted_completes accepts (lexemes r.ts) whole))) in
    let prefix_is : r.ts ≡ r.prefix = r.is_prefix.parts ∙ ap (λ (z : List Placed). r.prefix ++ z) none
    ∙ append-nil r.prefix in
    let yes : r.accepted ≡ true = r.is_accepted.1 (rw (← prefix_is) whole) in
    let next = behind_is text 0 r.place r.tail r.prefix r.after r.cut.last r.next
    (rw (← r.is_prefix.parts) r.cut.comes) r.follows in
    let end = whole_ends text 0 r.tail r.ts r.cut.last same.1 r.cut.no_token r.cut.comes in
    let nothing : r.next ≡ Nothing = next ∙ ap (next_before r.cut.last) none ∙ end in
    none_some (sym (λ i. fault_of g text (yes i) (last_or None (lexemes r.prefix)) (nothing i)) ∙ r.is_fault)

-- a text that is refused as an expression spells no tree
pub refused_spells_none : (text : List ℕ) (f : Fault) (e : Tree) → IsRefused Expressions text f → IsTreeText text e → ⊥
refused_spells_none text f e r t = refused_accepts_none (IsAccepted Expressions) Expressions text f t.0 r t.1 (e, t.2)

-- a text that is refused as a value spells none
pub refused_spells_no_value : (text : List ℕ) (f : Fault) (c : CfgValue) → IsRefused Values text f → IsValueText text c
    → ⊥
refused_spells_no_value text f c r t = refused_accepts_none (IsAccepted Values) Values text f t.0 r t.1 (c, t.2)
