-- The longest prefix that is completable.
use Rattle.std.proofs.Common.{◌≡◌, refl, sym, ap, ◌∙◌, ℕ, ◌≤◌, zero-le, suc-le-suc, List, [], ◌∷◌, ◌++◌, Option}
use Rattle.std.proofs.Common.{Some, None, inl, inr, ◌⊎◌, append_assoc, length, length-append, arith}
use Rattle.std.specs.Prelude.{IsFalse}
use Rattle.std.specs.List.{last_or}
use Rattle.cargo_platform.specs.Tokens.{Lexeme, Placed}
use Rattle.cargo_platform.specs.Cut.{lexemes, Item, ComesBehind, is_token}
use Rattle.cargo_platform.specs.Spelling.{Grammar, IsAccepted}
use Rattle.cargo_platform.specs.Faults.{IsCompletable, Fault, fault_of, span_of, IsRefused, IsRefusedAt}
use Rattle.cargo_platform.specs.Walk.{State, after, walk, is_whole}
use Rattle.cargo_platform.proofs.Paths.{next_before, comes_behind}
use Rattle.cargo_platform.proofs.Walk.{walk_next}
use Rattle.cargo_platform.proofs.Building.{stopped}
use Rattle.cargo_platform.proofs.Completing.{walked_completes, whole_accepted, accepted_whole}

head_is : {a b : Placed} {s t : List Placed} → a ∷ s ≡ b ∷ t → a ≡ b
head_is h = cc

tail_is : {a b : Placed} {s t : List Placed} → a ∷ s ≡ b ∷ t → s ≡ t
tail_is h = cc

pub lexemes-append : (ts us : List Placed) → lexemes (ts ++ us) ≡ lexemes ts ++ lexemes us
lexemes-append [] us = refl
lexemes-append (t ∷ ts) us = ap (λ z. t.token ∷ z) (lexemes-append ts us)

-- of two prefixes of one list, the second is no longer, or goes on with the next token
pub longer_or : (prefix others longer rest : List Placed) (t : Placed) → prefix ++ (t ∷ rest) ≡ longer ++ others
    → (length longer ≤ length prefix) ⊎ ((more : List Placed) × (longer ≡ prefix ++ (t ∷ more)))
longer_or prefix others [] rest t h = inl (zero-le)
longer_or [] others (u ∷ us) rest t h = inr (us, λ i. sym (head_is h) i ∷ us)
longer_or (f ∷ fs) others (u ∷ us) rest t h =
    elim (longer_or fs others us rest t (tail_is h)) [
      | inl le ↦ inl (suc-le-suc le)
      | inr m ↦ inr (m.0, λ i. sym (head_is h) i ∷ m.1 i)
    ]

-- no prefix of a list is longer than the list
pub none_longer : (prefix longer others : List Placed) → prefix ++ [] ≡ longer ++ others → length longer ≤ length prefix
none_longer prefix longer others h = omega (arith, ap length h, length-append longer others, length-append prefix [])

-- where nothing that begins with the prefix and the next token is accepted, no longer prefix is completable
pub longest_before : (g : Grammar) (prefix rest : List Placed) (t : Placed)
    → ((more : List Lexeme) → IsAccepted g ((lexemes prefix ++ (t.token ∷ [])) ++ more) → ⊥)
    → (longer others : List Placed) → prefix ++ (t ∷ rest) ≡ longer ++ others → IsCompletable g (lexemes longer)
    → length longer ≤ length prefix
longest_before g prefix rest t never longer others h p =
    elim (longer_or prefix others longer rest t h) [
      | inl le ↦ le
      | inr m ↦
          let tokens = lexemes prefix in
          let is : lexemes longer ++ p.0 ≡ (tokens ++ t.token ∷ []) ++ (lexemes m.0 ++ p.0) =
          ap (λ (z : List Placed). lexemes z ++ p.0) m.1
          ∙ ap (λ (z : List Lexeme). z ++ p.0) (lexemes-append prefix (t ∷ m.0))
          ∙ append_assoc tokens (t.token ∷ lexemes m.0) p.0
          ∙ sym (append_assoc tokens (t.token ∷ []) (lexemes m.0 ++ p.0)) in
          absurd (never (lexemes m.0 ++ p.0) (rw (← is) p.2))
    ]

-- the next token does not go on with the tokens that lead to the state
abbrev pub goes_on : Grammar → State → List Placed → Option State
goes_on g s [] = None
goes_on g s (t ∷ ts) = after g s t.token

-- where a prefix is walked, and what follows does not go on with it, the text is refused there
pub refused_walked_at : (g : Grammar) (text : List ℕ) (prefix behind : List Placed) (last : Item) (tail : ℕ) (s : State)
    (fault : Fault) → IsFalse (is_token last) → ComesBehind text 0 (prefix ++ behind) last tail
    → walk g (lexemes prefix) ≡ Some s → goes_on g s behind ≡ None
    → fault_of g text (is_whole s) (last_or None (lexemes prefix)) (next_before last behind) ≡ Some fault
    → IsRefusedAt g text fault (Some (span_of text (is_whole s) (next_before last behind)))
refused_walked_at g text prefix behind last tail s fault none cut walked stops table = (
  record {
    ts = prefix ++ behind;
    tail = tail;
    cut = record { last = last; no_token = none; comes = cut };
    prefix = prefix;
    after = behind;
    is_prefix = record {
      parts = refl;
      completable = walked_completes g (lexemes prefix) s walked;
      longest = no_longer prefix behind s walked stops;
    };
    next = next_before last behind;
    place = comes.0;
    follows = comes.1;
    accepted = is_whole s;
    is_accepted =
        (λ h. whole_accepted g s (lexemes prefix) h walked, λ p. accepted_whole g s (lexemes prefix) walked p);
    is_fault = table;
  },
  refl,
)
  where
    comes : (to : ℕ) × ComesBehind text 0 prefix (next_before last behind) to
    comes = comes_behind text 0 tail prefix behind last cut

    no_longer : (prefix behind : List Placed) (s : State) → walk g (lexemes prefix) ≡ Some s → goes_on g s behind ≡ None
        → (longer others : List Placed) → prefix ++ behind ≡ longer ++ others → IsCompletable g (lexemes longer)
        → length longer ≤ length prefix
    no_longer prefix [] s walked stops longer others h p = none_longer prefix longer others h
    no_longer prefix (t ∷ rest) s walked stops longer others h p =
        longest_before g prefix rest t
        (λ more a. stopped g (lexemes prefix ++ (t.token ∷ [])) more
        (walk_next g (lexemes prefix) t.token s walked ∙ stops) a) longer others h p

pub refused_walked : (g : Grammar) (text : List ℕ) (prefix behind : List Placed) (last : Item) (tail : ℕ) (s : State)
    (fault : Fault) → IsFalse (is_token last) → ComesBehind text 0 (prefix ++ behind) last tail
    → walk g (lexemes prefix) ≡ Some s → goes_on g s behind ≡ None
    → fault_of g text (is_whole s) (last_or None (lexemes prefix)) (next_before last behind) ≡ Some fault
    → IsRefused g text fault
refused_walked g text prefix behind last tail s fault none cut walked stops table =
    (refused_walked_at g text prefix behind last tail s fault none cut walked stops table).0
