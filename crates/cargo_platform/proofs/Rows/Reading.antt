-- Some calls of a tokenizer one after another, what they cost, and what no calls give.
use Rattle.std.proofs.Common.{◌≡◌, ◌≤◌, refl, sym, ap, ℕ, lit≤, lit<, true, false, true≢false, List, [], ◌∷◌, codes}
use Rattle.std.proofs.Common.{inl, inr, arith, length, Option, Result, None, Some, Err}
use Rattle.std.specs.Char.{encode_utf8}
use Rattle.std.specs.Str.{chars}
use Rattle.cargo_platform.specs.declared.tokens.Spanned.{Spanned}
use Rattle.cargo_platform.specs.declared.tokens.TokenFault.{TokenFault}
use Rattle.cargo_platform.specs.declared.tokens.TokenFaultKind.{TokenFaultKind}
use Rattle.cargo_platform.specs.declared.tokens.TokenFaultKind.TheVariants.{UnexpectedChar}
use Rattle.cargo_platform.specs.Tokens.{LeftParen, IsStringValue}
use Rattle.cargo_platform.specs.Cut.{Item, Token, Lexical, Nothing, Comes, ComesBehind}
use Rattle.cargo_platform.specs.Reading.{Progress, Gives, NextGives, BeginsCharacter, NextCall, characters_from}
use Rattle.cargo_platform.specs.Reading.{results_left, GoesThrough}
use Rattle.cargo_platform.proofs.OneCut.{tail_no_space, one_cut_from}
use Rattle.cargo_platform.proofs.Runs.{cuts_are_read}
use Rattle.cargo_platform.proofs.CutTests.{spaces, written_at, cut_by}
use Rattle.cargo_platform.proofs.Rows.Cut.{at, word, lone_a, number_sign_comes, nothing_comes}
use Rattle.cargo_platform.proofs.Rows.Cut.{something_comes}

-- a tokenizer that came to a place, with its looks so far
abbrev reached : List ℕ → ℕ → ℕ → Progress
reached text place looks = record { text = text; place = place; failed = false; looks = looks }

-- the same after a fault
abbrev stopped : List ℕ → ℕ → ℕ → Progress
stopped text place looks = record { text = text; place = place; failed = true; looks = looks }

-- ---- where a call leads

gives_end : NextGives (reached (codes "a  ") 1 0) None (reached (codes "a  ") 3 0)
gives_end = inl (record { going = refl; same_text = refl; comes = nothing_comes; failed_is = refl })

other_text : (place : ℕ) → Gives (reached (codes "a") 0 0) (reached (codes "a ") place 0) Nothing → ⊥
other_text place p = absurd (omega (arith, ap length p.same_text))

no_place_behind_end : (looks : ℕ) → Gives (reached (codes "a") 1 0) (reached (codes "a") 0 looks) Nothing → ⊥
no_place_behind_end looks p = absurd (omega (arith, p.comes.1))

-- after a fault a call gives nothing, and changes nothing
no_item_after_fault : (new : Progress) (item : Item) → Gives (stopped (codes "a") 1 0) new item → ⊥
no_item_after_fault new item p = true≢false p.going

nothing_after_fault : NextGives (stopped (codes "#") 0 4) None (stopped (codes "#") 0 4)
nothing_after_fault = inr (refl, refl, refl)

other_looks_after_fault : NextGives (stopped (codes "#") 0 4) None (stopped (codes "#") 0 5) → ⊥
other_looks_after_fault (inr p) = absurd (omega (arith, ap (λ z. z.looks) p.2))
other_looks_after_fault (inl p) = true≢false p.going

-- inside `é` no character begins
begins_inside : (kind : TokenFaultKind)
    → BeginsCharacter (0xC3 ∷ 0xA9 ∷ []) (Some (Err (record { kind = kind; at = 1 }))) → ⊥
begins_inside kind p = absurd (omega (arith, p.1 (lit< tt) (lit≤ tt)))

begins_at_end : (kind : TokenFaultKind)
    → BeginsCharacter (0xC3 ∷ 0xA9 ∷ []) (Some (Err (record { kind = kind; at = 2 })))
begins_at_end kind = (lit≤ tt, λ below high. absurd (omega (arith, below)))

-- ---- items one after another

a_comes : Comes (codes "a") 0 (Token (word (codes "a") 0 1)) 1
a_comes = (spaces _ _ _ refl, written_at _ (word (codes "a") 0 1) refl, (refl, refl), refl)

gives_a : (looks new : ℕ)
    → Gives (reached (codes "a") 0 looks) (reached (codes "a") 1 new) (Token (word (codes "a") 0 1))
gives_a looks new = record { going = refl; same_text = refl; comes = a_comes; failed_is = refl }

-- `a`, and then the end
a_behind : ComesBehind (codes "a") 0 (word (codes "a") 0 1 ∷ []) Nothing 1
a_behind = (a_comes, (spaces _ _ _ refl, refl))

-- no token is passed over
no_step : (to : ℕ) → ComesBehind (codes "a") 0 [] Nothing to → ⊥
no_step to p = something_comes to p

not_twice : (next : Item) (to : ℕ)
    → ComesBehind (codes "a") 0 (word (codes "a") 0 1 ∷ word (codes "a") 0 1 ∷ []) next to → ⊥
not_twice next to p = absurd (omega (arith, p.1.0.0.1.ordered))

end_behind_space : Comes (codes "a ") 1 Nothing 2
end_behind_space = (spaces _ _ _ refl, refl)

-- it is given once
gives_fault : (looks new : ℕ)
    → Gives (reached (codes "a #") 1 looks) (stopped (codes "a #") 2 new) (Lexical (UnexpectedChar 0x23) 2)
gives_fault looks new = record { going = refl; same_text = refl; comes = number_sign_comes; failed_is = refl }

-- neither before a space nor before a token
no_fault_at_space : (kind : TokenFaultKind) (to : ℕ) → Comes (codes " (") 0 (Lexical kind 0) to → ⊥
no_fault_at_space kind to p = true≢false (tail_no_space (codes " (") (inr (kind, p.1)))

no_end_at_space : (to : ℕ) → Comes (codes " (") 0 Nothing 0 → ⊥
no_end_at_space to p = absurd (omega (arith, p.1))

-- ---- a whole text

-- ` (`
reads_paren : GoesThrough (codes " (") (at LeftParen 1 2 ∷ []) 2
reads_paren = (cuts_are_read (codes " (") (at LeftParen 1 2 ∷ []) 2).1 (cut_by _ _ _ refl (inl refl))

no_token_left_out : (tail : ℕ) → GoesThrough (codes "a") [] tail → ⊥
no_token_left_out tail r =
    absurd
    (omega
    (arith, ap length (one_cut_from (codes "a") [] _ 0 tail 1 ((cuts_are_read (codes "a") [] tail).0 r) lone_a).0))

no_other_tail : GoesThrough (codes "a") (word (codes "a") 0 1 ∷ []) 0 → ⊥
no_other_tail r =
    let cut = (cuts_are_read (codes "a") (word (codes "a") 0 1 ∷ []) 0).0 r in
    absurd (omega (arith, (one_cut_from (codes "a") _ _ 0 0 1 cut lone_a).1))

-- ---- what calls cost

-- `aé(` has three characters
counted : (characters_from (0x61 ∷ 0xC3 ∷ 0xA9 ∷ 0x28 ∷ []) 0 ≡ 3)
    × (characters_from (0x61 ∷ 0xC3 ∷ 0xA9 ∷ 0x28 ∷ []) 3 ≡ 1) × (characters_from (codes "a") 1 ≡ 0)
unfolding chars
counted = (refl, refl, refl)

results_are_few : (results_left (reached (codes " (") 0 0) ≡ 3) × (results_left (reached (codes " (") 2 0) ≡ 1)
    × (results_left (stopped (codes " (") 1 0) ≡ 0)
results_are_few = (refl, refl, refl)

-- a call after the fault costs nothing
next_after_fault : NextCall (stopped (codes "#") 0 1) None (stopped (codes "#") 0 1)
unfolding chars
next_after_fault = record {
  gives = inr (refl, refl, refl);
  begins = tt;
  reached = (lit≤ tt, λ below high. absurd (omega (arith, high)));
  at_least = λ going. absurd (true≢false going);
  at_most = λ going. absurd (true≢false going);
  at_most_ever = lit≤ tt;
  call = λ going. absurd (true≢false going);
  call_ever = lit≤ tt;
}

-- after a token it was looked at, and what is there; at the end the end
looks_at_space : (old : Progress) (r : Option (Result Spanned TokenFault)) (looks : ℕ) →
    NextCall old r (reached (codes "a ") 1 looks) → (2 ≤ looks) × (looks ≤ 10)
unfolding chars
looks_at_space old r looks n = (omega (arith, n.at_least refl), omega (arith, n.at_most refl))

looks_at_end : (old : Progress) (r : Option (Result Spanned TokenFault)) (looks : ℕ) →
    NextCall old r (reached (codes "a ") 2 looks) → (3 ≤ looks) × (looks ≤ 19)
unfolding chars
looks_at_end old r looks n = (omega (arith, n.at_least refl), omega (arith, n.at_most refl))

-- with a fault too, no more than nine at each of three characters, and one
looks_up_to_fault : (old : Progress) (r : Option (Result Spanned TokenFault)) →
    NextCall old r (stopped (codes "a #") 2 29) → ⊥
unfolding chars
looks_up_to_fault old r n = absurd (omega (arith, n.at_most_ever))

-- one call past one character makes no more than ten, and one at a fault no more than nine for each that was left
one_call : (r : Option (Result Spanned TokenFault)) →
    NextCall (reached (codes "a ") 0 0) r (reached (codes "a ") 1 11) → ⊥
unfolding chars
one_call r n = absurd (omega (arith, n.call refl))

one_call_to_fault : (r : Option (Result Spanned TokenFault)) →
    NextCall (reached (codes "a #") 1 2) r (stopped (codes "a #") 2 22) → ⊥
unfolding chars
one_call_to_fault r n = absurd (omega (arith, n.call_ever))

-- ---- strings

string_values : IsStringValue (codes "a b") × IsStringValue []
unfolding encode_utf8
string_values = (((codes "a b", (refl, refl)), refl), (([], (refl, refl)), refl))

no_quote_at_end : IsStringValue (codes "a\"") → ⊥
no_quote_at_end p = true≢false (sym p.1)
