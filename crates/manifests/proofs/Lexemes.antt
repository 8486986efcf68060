-- The tokens of a text, one after another.
use Rattle.std.proofs.Common.{◌≡◌, ◌∙◌, sym, ap, subst, refl, ℕ, false, List, [], ◌∷◌, ◌++◌, append_assoc}
use Rattle.std.proofs.Common.{Option, Some, None, Result, Ok, Err, inl, inr, true≢false}
use Rattle.std.proofs.lemmas.List.{map-append, append-nil}
use Rattle.cargo_platform.specs.declared.tokens.Token as tokens
use Rattle.cargo_platform.specs.declared.tokens.Spanned.{Spanned}
use Rattle.cargo_platform.specs.declared.tokens.TokenFault.{TokenFault}
use Rattle.cargo_platform.specs.Tokens.{Placed, placed, lexeme}
use Rattle.cargo_platform.specs.Cut.{Item, Token, Lexical, Nothing, Comes, ComesBehind, lexemes}
use Rattle.cargo_platform.specs.Reading.{Progress, NextCall, Gives, given}
use Rattle.manifests.specs.Declarations.{HasTokens, lexemes_in}

-- these tokens were read up to a place of the text, without a fault, and whatever comes from there on comes after them
pub record HasRead (text : List ℕ) (p : Progress) (tokens : List tokens.Token) : Type 0 where
  pub same : p.text ≡ text
  pub going : p.failed ≡ false
  pub ts : List Placed
  pub are : lexemes ts ≡ lexemes_in tokens
  pub more : (us : List Placed) (last : Item) (to : ℕ) → ComesBehind text p.place us last to
      → ComesBehind text 0 (ts ++ us) last to

pub none_read : (text : List ℕ) (p : Progress) (tokens : List tokens.Token)
    → p ≡ (record { text = text; place = 0; failed = false; looks = 0 }) → tokens ≡ [] → HasRead text p tokens
none_read text p tokens is none =
    subst (λ q. HasRead text q tokens) (sym is) (subst (HasRead text (record {
      text = text;
      place = 0;
      failed = false;
      looks = 0;
    })) (sym none) (record { same = refl; going = refl; ts = []; are = refl; more = λ us last to h. h }))

-- what a call gave, where none has failed
gave : (p q : Progress) (r : Option (Result Spanned TokenFault)) → p.failed ≡ false → NextCall p r q
    → Gives p q (given r)
gave p q r going call = elim call.gives [
  | inl g ↦ g
  | inr g ↦ absurd (true≢false (sym g.0 ∙ going))
]

pub one_read : (text : List ℕ) (p q : Progress) (s : Spanned) (old new : List tokens.Token) → HasRead text p old
    → NextCall p (Some (Ok s)) q → new ≡ old ++ s.token ∷ [] → HasRead text q new
one_read text p q s old new h call is =
    let g = gave p q (Some (Ok s)) h.going call in
    let t = placed s in
    let comes = subst (λ z. Comes z p.place (Token t) q.place) h.same g.comes in
    record {
      same = g.same_text ∙ h.same;
      going = g.failed_is;
      ts = h.ts ++ t ∷ [];
      are =
          map-append (λ (u : Placed). u.token) h.ts (t ∷ []) ∙ ap (λ ls. ls ++ lexeme s.token ∷ []) h.are
          ∙ sym (map-append lexeme old (s.token ∷ [])) ∙ ap lexemes_in (sym is);
      more = λ us last to c.
          subst (λ (zs : List Placed). ComesBehind text 0 zs last to) (sym (append_assoc h.ts (t ∷ []) us))
          (h.more (t ∷ us) last to (
            (comes.0, comes.1, comes.2, refl),
            subst (λ z. ComesBehind text z us last to) comes.3 c,
          ));
    }

-- after the last token comes what the last call gave
ended : (text : List ℕ) (p q : Progress) (tokens : List tokens.Token) (last : Item) (h : HasRead text p tokens)
    → Gives p q last → ComesBehind text 0 h.ts last q.place
ended text p q tokens last h g =
    subst (λ (zs : List Placed). ComesBehind text 0 zs last q.place) (append-nil h.ts)
    (h.more [] last q.place (subst (λ z. Comes z p.place last q.place) h.same g.comes))

pub all_read : (text : List ℕ) (p q : Progress) (tokens : List tokens.Token) → HasRead text p tokens → NextCall p None q
    → HasTokens text (Some (lexemes_in tokens))
all_read text p q tokens h call =
    (h.ts, q.place, ended text p q tokens Nothing h (gave p q None h.going call), h.are)

pub fault_read : (text : List ℕ) (p q : Progress) (f : TokenFault) (tokens : List tokens.Token) → HasRead text p tokens
    → NextCall p (Some (Err f)) q → HasTokens text None
fault_read text p q f tokens h call =
    (h.ts, f.kind, f.at, q.place, ended text p q tokens (Lexical f.kind f.at) h (gave p q (Some (Err f)) h.going call))
