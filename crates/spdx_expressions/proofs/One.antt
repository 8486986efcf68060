-- A text that is one licence, or has a fault.
use Rattle.std.proofs.Common.{◌≡◌, refl, sym, ap, ◌∙◌, subst, ℕ, Bool, true, false, List, [], ◌∷◌, ◌++◌}
use Rattle.std.proofs.Common.{Option, Some, None, cond, codes, true≢false}
use Rattle.std.specs.Prelude.{IfSome, IsTrue}
use Rattle.spdx_expressions.specs.declared.error.Expected.{Expected}
use Rattle.spdx_expressions.specs.declared.error.Expected.TheVariants as expected
use Rattle.spdx_expressions.specs.declared.error.Refusal.{Refusal}
use Rattle.spdx_expressions.specs.declared.error.Refusal.TheVariants as refusal
use Rattle.spdx_expressions.specs.declared.error.ReadError.{ReadError}
use Rattle.spdx_expressions.specs.declared.error.ReadError.TheVariants as errors
use Rattle.spdx_expressions.specs.Errors.{OfParse}
use Rattle.spdx_expressions.specs.Tokens.{Lexeme, LeftBracket, RightBracket, Slash, Word, Placed, lexemes}
use Rattle.spdx_expressions.specs.Tokens.{tokens_from}
use Rattle.spdx_expressions.specs.Words.{is_identifier}
use Rattle.spdx_expressions.specs.Trees.{Term, Piece, Named}
use Rattle.spdx_expressions.specs.Grammar.{IsTerm, plus, term_tokens, exception_tokens, IsLicenceText}
use Rattle.spdx_expressions.specs.Faults.{IsOneLicence, IsCompletable, IsStuck, IsFaultOfOne, expected_of_one}
use Rattle.spdx_expressions.specs.Faults.{expected_last}
use Rattle.spdx_expressions.specs.Inside.Reading.{named, by_name, operand, at, State, Mode, Wants, Licensed, Excepts}
use Rattle.spdx_expressions.specs.Inside.Reading.{Behind, excepts, IsOf, Becomes}
use Rattle.spdx_expressions.specs.Inside.Reading.{with_exception}
use Rattle.spdx_expressions.specs.Inside.Reading.{LacksWith, IsExcepted, LacksException, DoNotFit}
use Rattle.spdx_expressions.specs.Inside.Single.{IsStoppedAtOne}
use Rattle.spdx_expressions.proofs.Names.{named_sound, named_complete}
use Rattle.spdx_expressions.proofs.Viable.{unnamed, unidentified, fault_refuses}

-- the word of a licence with no exception
pub record IsName (l : Lexeme) (t : Term) : Type 0 where
  pub word : List ℕ
  pub is_word : l ≡ Word word
  pub is_named : named word ≡ Some t

term_in : Term → Option State → Term
term_in d None = d
term_in d (Some s) = in_mode s.mode
  where
    in_mode : Mode → Term
    in_mode Wants = d
    in_mode (Licensed t) = t
    in_mode (Excepts t) = d
    in_mode Behind = d

is_wanting : Option State → Bool
is_wanting None = false
is_wanting (Some s) = in_mode s.mode
  where
    in_mode : Mode → Bool
    in_mode Wants = true
    in_mode (Licensed t) = false
    in_mode (Excepts t) = false
    in_mode Behind = false

pub name_of : (l : Lexeme) (t : Term) → operand 0 [] l ≡ at (Licensed t) 0 [] → IsName l t
unfolding term_in is_wanting
name_of LeftBracket t h = absurd (true≢false (ap is_wanting h))
name_of RightBracket t h = absurd cc
name_of Slash t h = absurd cc
name_of (Word w) t h = by (named w) refl h
  where
    by : (o : Option Term) → named w ≡ o → by_name o 0 [] ≡ at (Licensed t) 0 [] → IsName (Word w) t
    by None e h = absurd cc
    by (Some u) e h = let is : u ≡ t = ap (term_in t) h in record {
      word = w;
      is_word = refl;
      is_named = e
          ∙ ap Some is;
    }

with_text : Term → List ℕ → Term
with_text t e = record { name = t.name; or_later = t.or_later; exception = Some e }

-- the licence of a name
pub plain_term : (l : Lexeme) (t : Term) → IsName l t → IsTerm t × (l ∷ [] ≡ term_tokens t)
plain_term l t n =
    let s = named_sound n.word t n.is_named in (
      s.0,
      ap (λ (x : Lexeme). x ∷ []) (n.is_word ∙ ap Word s.2)
          ∙ ap (λ (ex : Option (List ℕ)). Word (t.name ++ plus t.or_later) ∷ exception_tokens ex) (sym s.1),
    )

-- and with an exception
pub excepted_term : (l w x : Lexeme) (t : Term) (e : List ℕ) → IsName l t → w ≡ Word (codes "WITH") → x ≡ Word e
    → is_identifier e ≡ true
    → IsTerm (record { name = t.name; or_later = t.or_later; exception = Some e })
    × (l ∷ w ∷ x ∷ [] ≡ term_tokens (record { name = t.name; or_later = t.or_later; exception = Some e }))
excepted_term l w x t e n is_with is_e is =
    let s = named_sound n.word t n.is_named in (
      (s.0.0, is),
      ap (λ (y : Lexeme). y ∷ w ∷ x ∷ []) (n.is_word ∙ ap Word s.2)
          ∙ ap (λ (y : Lexeme). Word (t.name ++ plus t.or_later) ∷ y ∷ x ∷ []) is_with
          ∙ ap (λ (y : Lexeme). Word (t.name ++ plus t.or_later) ∷ Word (codes "WITH") ∷ y ∷ []) is_e,
    )

-- ---- what can't go on

no_empty : IsOneLicence [] → ⊥
no_empty (t, is, e) = cc

-- no licence begins with the token
no_name : (l : Lexeme) → ((l ≡ LeftBracket → ⊥) → (n : ℕ) (ps : List Piece) → operand n ps l ≡ None)
    → IsCompletable IsOneLicence (l ∷ []) → ⊥
no_name l none (more, (t, is, e)) =
    let is_l : l ≡ Word (t.name ++ plus t.or_later) = cc in
    let word : l ≡ LeftBracket → ⊥ = λ open_bracket. cc in
    let some : operand 0 [] l ≡ by_name (Some (record {
      name = t.name;
      or_later = t.or_later;
      exception =
          None;
    })) 0 [] =
    ap (operand 0 []) is_l ∙ ap (λ (o : Option Term). by_name o 0 []) (named_complete t is) in
    let both = sym (none word 0 []) ∙ some in
    cc

-- two tokens are no licence
no_two : (l w : Lexeme) → IsOneLicence (l ∷ w ∷ []) → ⊥
no_two l w (t, is, e) = by t.exception e
  where
    by : (ex : Option (List ℕ)) → l ∷ w ∷ [] ≡ Word (t.name ++ plus t.or_later) ∷ exception_tokens ex → ⊥
    by None e = cc
    by (Some x) e = cc

-- the third is an identifier
no_exception : (l w x : Lexeme) (u : Term) → excepts u 0 [] x ≡ None → IsCompletable IsOneLicence (l ∷ w ∷ x ∷ []) → ⊥
no_exception l w x u none (more, (t, is, e)) = by t.exception is.1 e
  where
    by : (ex : Option (List ℕ)) → IfSome ex (λ y. IsTrue (is_identifier y))
        → l ∷ w ∷ x ∷ more ≡ Word (t.name ++ plus t.or_later) ∷ exception_tokens ex → ⊥
    by None id e = cc
    by (Some y) id e =
        let is_x : x ≡ Word y = cc in
        let left : excepts u 0 [] (Word y) ≡ None = ap (excepts u 0 []) (sym is_x) ∙ none in
        let P : Bool → Type 0 = λ b. cond b (at Behind 0 ([] ++ Named (with_exception u y) ∷ [])) None ≡ None in
        let never = subst P id left in
        cc

no_fourth : (l w x y : Lexeme) → IsCompletable IsOneLicence (l ∷ w ∷ x ∷ y ∷ []) → ⊥
no_fourth l w x y (more, (t, is, e)) = by t.exception e
  where
    by : (ex : Option (List ℕ)) → l ∷ w ∷ x ∷ y ∷ more ≡ Word (t.name ++ plus t.or_later) ∷ exception_tokens ex → ⊥
    by None e = cc
    by (Some z) e = cc

no_second : (l x : Lexeme) → (x ≡ Word (codes "WITH") → ⊥) → IsCompletable IsOneLicence (l ∷ x ∷ []) → ⊥
no_second l x other (more, (t, is, e)) = by t.exception e
  where
    by : (ex : Option (List ℕ)) → l ∷ x ∷ more ≡ Word (t.name ++ plus t.or_later) ∷ exception_tokens ex → ⊥
    by None e = cc
    by (Some z) e = let is_x : x ≡ Word (codes "WITH") = cc in other is_x

-- ---- the refusals

stopped_one : (text : List ℕ) (before after : List Placed) (wanted : Expected) (r : Refusal)
    → tokens_from 0 text ≡ before ++ after → IsCompletable IsOneLicence (lexemes before)
    → IsStuck IsOneLicence (lexemes before) after → wanted ≡ expected_of_one (lexemes before)
    → IsOf text after wanted r → IsStoppedAtOne text r
stopped_one text before after wanted (refusal.Memory e) cut completable stuck is of = tt
stopped_one text before after wanted (refusal.Unexpected expected found span) cut completable stuck is of = record {
  before = before;
  after = after;
  cut = cut;
  completable = completable;
  stuck = stuck;
  is_expected = of.0 ∙ is;
  is_found = of.1;
  is_at = of.2;
}

some_licence : IsCompletable IsOneLicence []
some_licence = (
  Word (codes "a") ∷ [],
  (
    record { name = codes "a"; or_later = false; exception = None },
    (refl, tt),
    refl,
  ),
)

pub stopped_empty : (text : List ℕ) (r : Refusal) → tokens_from 0 text ≡ [] → IsOf text [] expected.Licence r
    → IsStoppedAtOne text r
stopped_empty text r none of = stopped_one text [] [] expected.Licence r none some_licence no_empty refl of

pub stopped_name : (text : List ℕ) (t : Placed) (ts : List Placed) (r : Refusal) → tokens_from 0 text ≡ t ∷ ts
    → ((t.token ≡ LeftBracket → ⊥) → (n : ℕ) (ps : List Piece) → operand n ps t.token ≡ None)
    → IsOf text (t ∷ ts) expected.Licence r → IsStoppedAtOne text r
stopped_name text t ts r some none of =
    stopped_one text [] (t ∷ ts) expected.Licence r some some_licence (no_name t.token none) refl of

some_exception : (l : Lexeme) (t : Term) (w : Lexeme) → IsName l t → w ≡ Word (codes "WITH")
    → IsCompletable IsOneLicence (l ∷ w ∷ [])
some_exception l t w n is_with =
    let e = excepted_term l w (Word (codes "a")) t (codes "a") n is_with refl refl in
    (Word (codes "a") ∷ [], (record { name = t.name; or_later = t.or_later; exception = Some (codes "a") }, e.0, e.1))

pub stopped_exception : (text : List ℕ) (first : Placed) (after : List Placed) (t : Term) (r : Refusal)
    → tokens_from 0 text ≡ first ∷ after → IsName first.token t → LacksException text after r → IsStoppedAtOne text r
stopped_exception text first after t r some n lacks =
    stopped_one text (first ∷ lacks.with ∷ []) lacks.rest expected.Exception r
    (some ∙ ap (λ (l : List Placed). first ∷ l) lacks.comes)
    (some_exception first.token t lacks.with.token n lacks.is_with)
    (stuck lacks.rest (lacks.stops t 0 []))
    (ap (λ (l : Lexeme). expected_last (Some l)) (sym lacks.is_with)) lacks.refusal
  where
    stuck : (rest : List Placed) → DoNotFit (record { mode = Excepts t; depth = 0; parts = [] }) rest
        → IsStuck IsOneLicence (first.token ∷ lacks.with.token ∷ []) rest
    stuck [] fits = no_two first.token lacks.with.token
    stuck (x ∷ xs) fits = no_exception first.token lacks.with.token x.token t fits

named_last : (l : Lexeme) (t : Term) → IsName l t → expected.End ≡ expected_last (Some l)
named_last l t n =
    ap (λ (b : Bool). cond b expected.Exception expected.End)
    (sym (unnamed n.word (codes "WITH") t refl n.is_named))
    ∙ ap (λ (x : Lexeme). expected_last (Some x)) (sym n.is_word)

excepted_last : (l : Lexeme) (e : List ℕ) → l ≡ Word e → is_identifier e ≡ true → expected.End ≡ expected_last (Some l)
excepted_last l e is_e is =
    ap (λ (b : Bool). cond b expected.Exception expected.End) (sym (unidentified e (codes "WITH") refl is))
    ∙ ap (λ (x : Lexeme). expected_last (Some x)) (sym is_e)

pub stopped_surplus : (text : List ℕ) (first x : Placed) (after : List Placed) (t : Term) (r : Refusal)
    → tokens_from 0 text ≡ first ∷ x ∷ after → IsName first.token t → LacksWith (x ∷ after)
    → IsOf text (x ∷ after) expected.End r → IsStoppedAtOne text r
stopped_surplus text first x after t r some n lacks of =
    let p = plain_term first.token t n in
    stopped_one text (first ∷ []) (x ∷ after) expected.End r some ([], (t, p.0, p.1))
    (no_second first.token x.token (lacks x after refl)) (named_last first.token t n) of

pub stopped_behind : (text : List ℕ) (first x : Placed) (ts after : List Placed) (e : List ℕ) (t : Term) (r : Refusal)
    → tokens_from 0 text ≡ first ∷ ts → IsName first.token t → IsExcepted ts e (x ∷ after)
    → IsOf text (x ∷ after) expected.End r → IsStoppedAtOne text r
stopped_behind text first x ts after e t r some n ex of =
    let p = excepted_term first.token ex.with.token ex.name.token t e n ex.is_with ex.is_word ex.is_identifier in
    stopped_one text (first ∷ ex.with ∷ ex.name ∷ []) (x ∷ after) expected.End r
    (some ∙ ap (λ (l : List Placed). first ∷ l) ex.comes)
    ([], (record { name = t.name; or_later = t.or_later; exception = Some e }, p.0, p.1))
    (no_fourth first.token ex.with.token ex.name.token x.token)
    (excepted_last ex.name.token e ex.is_word ex.is_identifier) of

-- ---- the licence

pub plain_text : (text : List ℕ) (first : Placed) (after : List Placed) (t : Term) → tokens_from 0 text ≡ first ∷ after
    → IsName first.token t → after ≡ [] → IsLicenceText text t
plain_text text first after t some n none =
    let p = plain_term first.token t n in
    (p.0, ap lexemes (some ∙ ap (λ (l : List Placed). first ∷ l) none) ∙ p.1)

pub excepted_text : (text : List ℕ) (first : Placed) (ts after : List Placed) (e : List ℕ) (t : Term)
    → tokens_from 0 text ≡ first ∷ ts → IsName first.token t → IsExcepted ts e after → after ≡ []
    → IsLicenceText text (record { name = t.name; or_later = t.or_later; exception = Some e })
excepted_text text first ts after e t some n ex none =
    let p = excepted_term first.token ex.with.token ex.name.token t e n ex.is_with ex.is_word ex.is_identifier in (
      p.0,
      ap lexemes (some ∙ ap (λ (l : List Placed). first ∷ l) (ex.comes
          ∙ ap (λ (l : List Placed). ex.with ∷ ex.name ∷ l) none)) ∙ p.1,
    )

pub one_fault : (text : List ℕ) (r : Refusal) (e : ReadError) → IsStoppedAtOne text r → Becomes r text e
    → OfParse e (λ p. IsFaultOfOne text p.expected p.found p.span)
one_fault text r (errors.Memory a) stopped is = tt
one_fault text (refusal.Memory a) (errors.Parse p) stopped is = absurd is
one_fault text (refusal.Unexpected expected found span) (errors.Parse p) f is = record {
  before = f.before;
  after = f.after;
  cut = f.cut;
  completable = f.completable;
  stuck = f.stuck;
  is_expected = is.1 ∙ f.is_expected;
  is_found = is.2 ∙ f.is_found;
  is_at = is.3 ∙ f.is_at;
}

pub one_refuses : (text : List ℕ) (r : Refusal) (e : ReadError) → IsStoppedAtOne text r → Becomes r text e
    → OfParse e (λ p. (t : Term) → IsLicenceText text t → ⊥)
one_refuses text r (errors.Memory a) stopped is = tt
one_refuses text r (errors.Parse p) stopped is = λ t spells.
    fault_refuses IsOneLicence expected_of_one text p.expected p.found p.span
    (one_fault text r (errors.Parse p) stopped is) (t, spells.0, spells.1)
