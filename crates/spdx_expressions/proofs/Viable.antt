-- Which fronts of tokens can be completed, and what is expected after one.
use Rattle.std.proofs.Common.{◌≡◌, refl, sym, ap, ◌∙◌, subst, ℕ, suc, zero, ◌+◌, Bool, true, false, List, [], ◌∷◌}
use Rattle.std.proofs.Common.{◌++◌, append-nil, Option, Some, None, arith, cond, codes, add-zero}
use Rattle.std.specs.Prelude.{bytes_eq, count_by, ◌||◌}
use Rattle.std.specs.List.{last_or}
use Rattle.std.proofs.lemmas.List.Sums.{sum_by-cons}
use Rattle.std.proofs.Common.{append_assoc}
use Rattle.std.specs.declared.ops.Range.{Range}
use Rattle.spdx_expressions.specs.declared.error.Found.{Found}
use Rattle.spdx_expressions.specs.declared.error.Refusal.{Refusal}
use Rattle.spdx_expressions.specs.declared.error.Refusal.TheVariants as refusal
use Rattle.spdx_expressions.specs.declared.error.ReadError.{ReadError}
use Rattle.spdx_expressions.specs.declared.error.ReadError.TheVariants as errors
use Rattle.spdx_expressions.specs.Errors.{OfParse}
use Rattle.spdx_expressions.specs.Tokens.{Lexeme, LeftBracket, RightBracket, Slash, Word, Placed, lexemes, tokens}
use Rattle.spdx_expressions.specs.Words.{is_identifier}
use Rattle.spdx_expressions.specs.Trees.{Term, Tree, Piece, Named, Close}
use Rattle.spdx_expressions.specs.Grammar.{AreWritten, SpellTree, IsTreeText, Spells}
use Rattle.spdx_expressions.specs.declared.error.Expected.{Expected}
use Rattle.spdx_expressions.specs.declared.error.Expected.TheVariants as expected
use Rattle.spdx_expressions.specs.Faults.{IsAccepted, IsCompletable, expected_by, expected_after, expected_behind}
use Rattle.spdx_expressions.specs.Faults.{opened}
use Rattle.spdx_expressions.specs.Faults.{is_left, is_right, IsStuck, IsFault, IsFaultBy}
use Rattle.spdx_expressions.specs.Inside.Reading.{State, Mode, Wants, Licensed, Excepts, Behind, step, run, start}
use Rattle.spdx_expressions.specs.Inside.Reading.{whole}
use Rattle.spdx_expressions.specs.Inside.Reading.{named, by_name, at, by_mode, behind, expected_in}
use Rattle.spdx_expressions.specs.Inside.Reading.{with_exception}
use Rattle.spdx_expressions.specs.Inside.Reading.{IsRead, IsStopped, DoNotFit, Becomes}
use Rattle.spdx_expressions.proofs.Steps.{run-append, lexemes-append}
use Rattle.spdx_expressions.proofs.OneTree.{one_tree}
use Rattle.spdx_expressions.proofs.Written.{is_word, Ends, sound, complete}
use Rattle.spdx_expressions.proofs.Fitting.{Fits, spells_fits}
use Rattle.spdx_expressions.proofs.Building.{fits_tree}

-- ---- an end is accepted, and what is accepted ends

pub ends_written : (ts : List Lexeme) (qs : List Piece) → Ends (run (Some start) ts) qs
    → AreWritten qs ts × Fits true 0 qs
ends_written ts qs h =
    let a = sound ts Wants 0 [] qs tt h in
    let P : List Piece → Type 0 = λ q. AreWritten q ts × Fits true 0 q in
    subst P (sym a.1) (a.2, a.3)

pub ends_accepted : (ts : List Lexeme) (qs : List Piece) → Ends (run (Some start) ts) qs → IsAccepted ts
ends_accepted ts qs h =
    let w = ends_written ts qs h in
    let e = fits_tree qs w.1 in
    (e.0, (qs, w.0, e.1))

pub spelled_fits : (e : Tree) (ps : List Piece) → Spells 0 e ps → Fits true 0 ps
spelled_fits e ps s =
    let P : List Piece → Type 0 = Fits true 0 in
    subst P (append-nil ps) (spells_fits 0 e ps s 0 [] refl)

pub accepted_ends : (ts : List Lexeme) (e : Tree) (s : SpellTree ts e) → Ends (run (Some start) ts) s.0
accepted_ends ts e (ps, written, spells) =
    (complete ps ts written 0 []).wants (spelled_fits e ps spells)

-- ---- a state can go on to an end

closes : ℕ → List Lexeme
closes zero = []
closes (suc n) = RightBracket ∷ closes n

HasEnd : Option State → List Lexeme → Type 0
HasEnd s ts = (qs : List Piece) × Ends (run s ts) qs

closed : (n : ℕ) (ps : List Piece) → HasEnd (at Behind n ps) (closes n)
unfolding closes HasEnd
closed zero ps = (ps, refl)
closed (suc n) ps = closed n (ps ++ Close ∷ [])

closed_licence : (n : ℕ) (ps : List Piece) (t : Term) → HasEnd (at (Licensed t) n ps) (closes n)
unfolding closes HasEnd
closed_licence zero ps t = (ps ++ Named t ∷ [], refl)
closed_licence (suc n) ps t = closed n ((ps ++ Named t ∷ []) ++ Close ∷ [])

goes_on : (mode : Mode) (n : ℕ) (ps : List Piece) → (more : List Lexeme) × HasEnd (at mode n ps) more
unfolding HasEnd
goes_on Wants n ps =
    (Word (codes "a") ∷ closes n, closed_licence n ps (record { name = codes "a"; or_later = false; exception = None }))
goes_on (Licensed t) n ps = (closes n, closed_licence n ps t)
goes_on (Excepts t) n ps = (Word (codes "a") ∷ closes n, closed n (ps ++ Named (with_exception t (codes "a")) ∷ []))
goes_on Behind n ps = (closes n, closed n ps)

pub reached_completable : (ts : List Lexeme) (s : State) → run (Some start) ts ≡ Some s → IsCompletable IsAccepted ts
unfolding HasEnd
reached_completable ts s h =
    let on = goes_on s.mode s.depth s.parts in
    let e : run (Some start) (ts ++ on.0) ≡ run (Some s) on.0 =
    run-append (Some start) ts on.0 ∙ ap (λ (o : Option State). run o on.0) h in
    let P : Option State → Type 0 = λ o. Ends o on.1.0 in
    (on.0, ends_accepted (ts ++ on.0) on.1.0 (subst P (sym e) on.1.1))

-- ---- a state that is lost can't

lost_ends : (ts : List Lexeme) (qs : List Piece) → Ends (run None ts) qs → ⊥
lost_ends ts qs h = h

pub lost_stuck : (ts : List Lexeme) → run (Some start) ts ≡ None → IsCompletable IsAccepted ts → ⊥
lost_stuck ts h (more, (e, s)) =
    let e' : run (Some start) (ts ++ more) ≡ None =
    run-append (Some start) ts more ∙ ap (λ (o : Option State). run o more) h in
    let P : Option State → Type 0 = λ o. Ends o s.0 in
    subst P e' (accepted_ends (ts ++ more) e s)

pub early_end : (ts : List Lexeme) (s : State) → run (Some start) ts ≡ Some s → whole s ≡ None → IsAccepted ts → ⊥
early_end ts s h none (e, spelled) =
    let P : Option State → Type 0 = λ o. Ends o spelled.0 in
    let ends : whole s ≡ Some spelled.0 = subst P h (accepted_ends ts e spelled) in
    cc

-- ---- what is expected after the tokens

ToldBy : (ℕ → Expected) → (left right : ℕ) → ℕ → Option State → Type 0
ToldBy wanted left right n None = Unit {0}
ToldBy wanted left right n (Some s) = (expected_in s.mode s.depth ≡ wanted s.depth) × (s.depth + right ≡ n + left)

abbrev by_words : Bool → Bool → Bool → ℕ → Expected
by_words a o v n = cond (a || o) expected.Licence (cond v expected.Exception (expected_behind n))

abbrev lefts : Lexeme → ℕ
lefts t = count_by is_left (t ∷ [])

abbrev rights : Lexeme → ℕ
rights t = count_by is_right (t ∷ [])

Told : Lexeme → ℕ → Option State → Type 0
Told t n s = ToldBy (expected_by (Some t)) (lefts t) (rights t) n s

behind_word : (a o v : Bool) (n : ℕ) (x y : List Piece)
    → ToldBy (by_words a o v) 0 0 n (cond a (at Wants n x) (cond o (at Wants n y) None))
unfolding ToldBy
behind_word true o v n x y = (refl, refl)
behind_word false true v n x y = (refl, refl)
behind_word false false v n x y = tt

behind_told : (n : ℕ) (ps : List Piece) (t : Lexeme) → Told t n (behind n ps t)
unfolding ToldBy Told
behind_told n ps LeftBracket = tt
behind_told zero ps RightBracket = tt
behind_told (suc n) ps RightBracket = (refl, omega arith)
behind_told n ps Slash = (refl, refl)
behind_told n ps (Word w) =
    behind_word (bytes_eq w (codes "AND")) (bytes_eq w (codes "OR")) (bytes_eq w (codes "WITH")) n _ _

-- a word that is named is no operator
pub unnamed : (w text : List ℕ) (t : Term) → named text ≡ None → named w ≡ Some t → bytes_eq w text ≡ false
unnamed w text t none some = by (bytes_eq w text) refl
  where
    by : (b : Bool) → bytes_eq w text ≡ b → b ≡ false
    by false e = refl
    by true e =
        let is : named w ≡ None = ap named (is_word w text e) ∙ none in
        absurd cc

pub unidentified : (w text : List ℕ) → is_identifier text ≡ false → is_identifier w ≡ true → bytes_eq w text ≡ false
unidentified w text none some = by (bytes_eq w text) refl
  where
    by : (b : Bool) → bytes_eq w text ≡ b → b ≡ false
    by false e = refl
    by true e =
        let is : is_identifier w ≡ false = ap is_identifier (is_word w text e) ∙ none in
        absurd cc

named_told : (w : List ℕ) (n : ℕ) (ps : List Piece) (o : Option Term) → named w ≡ o → Told (Word w) n (by_name o n ps)
unfolding ToldBy Told
named_told w n ps None e = tt
named_told w n ps (Some t) e =
    let a = unnamed w (codes "AND") t refl e in
    let o = unnamed w (codes "OR") t refl e in
    let v = unnamed w (codes "WITH") t refl e in
    (rw (a, o, v) refl, refl)

excepted_told : (w : List ℕ) (n : ℕ) (x : List Piece) (b : Bool) → is_identifier w ≡ b
    → Told (Word w) n (cond b (at Behind n x) None)
unfolding ToldBy Told
excepted_told w n x false e = tt
excepted_told w n x true e =
    let a = unidentified w (codes "AND") refl e in
    let o = unidentified w (codes "OR") refl e in
    let v = unidentified w (codes "WITH") refl e in
    (rw (a, o, v) refl, refl)

licensed_told : (w : List ℕ) (t : Term) (n : ℕ) (ps : List Piece) (b : Bool) → bytes_eq w (codes "WITH") ≡ b
    → Told (Word w) n (cond b (at (Excepts t) n ps) (behind n (ps ++ Named t ∷ []) (Word w)))
unfolding ToldBy Told
licensed_told w t n ps false e = behind_told n (ps ++ Named t ∷ []) (Word w)
licensed_told w t n ps true e =
    let is = is_word w (codes "WITH") e in
    (ap (λ (u : List ℕ). expected_by (Some (Word u)) n) (sym is), refl)

step_told : (mode : Mode) (n : ℕ) (ps : List Piece) (t : Lexeme) → Told t n (by_mode mode n ps t)
unfolding ToldBy Told
step_told Wants n ps LeftBracket = (refl, add-zero (n + 1))
step_told Wants n ps RightBracket = tt
step_told Wants n ps Slash = tt
step_told Wants n ps (Word w) = named_told w n ps (named w) refl
step_told (Licensed u) n ps LeftBracket = tt
step_told (Licensed u) n ps RightBracket = behind_told n (ps ++ Named u ∷ []) RightBracket
step_told (Licensed u) n ps Slash = behind_told n (ps ++ Named u ∷ []) Slash
step_told (Licensed u) n ps (Word w) = licensed_told w u n ps (bytes_eq w (codes "WITH")) refl
step_told (Excepts u) n ps LeftBracket = tt
step_told (Excepts u) n ps RightBracket = tt
step_told (Excepts u) n ps Slash = tt
step_told (Excepts u) n ps (Word w) = excepted_told w n _ (is_identifier w) refl
step_told Behind n ps t = behind_told n ps t

counts-cons : (p : Lexeme → Bool) (t : Lexeme) (ts : List Lexeme)
    → count_by p (t ∷ ts) ≡ count_by p (t ∷ []) + count_by p ts
counts-cons p t ts = omega (arith, sum_by-cons (λ (x : Lexeme). cond (p x) 1 0) t ts)

abbrev IsTold : Option Lexeme → List Lexeme → ℕ → State → Type 0
IsTold l ts n s =
    (expected_in s.mode s.depth ≡ expected_by (last_or l ts) s.depth)
    × (s.depth + count_by is_right ts ≡ n + count_by is_left ts)

run_told : (ts : List Lexeme) (l : Option Lexeme) (s new : State)
    → expected_in s.mode s.depth ≡ expected_by l s.depth → run (Some s) ts ≡ Some new → IsTold l ts s.depth new
unfolding ToldBy Told
run_told [] l s new told h =
    let is : s ≡ new = cc in
    let P : State → Type 0 = IsTold l [] s.depth in
    subst P is (told, refl)
run_told (t ∷ ts) l s new told h = on (step s t) (step_told s.mode s.depth s.parts t) h (run_told ts (Some t))
  where
    on : (o : Option State) → Told t s.depth o → run o ts ≡ Some new
        → ((m new : State) → expected_in m.mode m.depth ≡ expected_by (Some t) m.depth → run (Some m) ts ≡ Some new
        → IsTold (Some t) ts m.depth new)
        → IsTold l (t ∷ ts) s.depth new
    on None told h later = absurd cc
    on (Some m) told h later =
        let rest = later m new told.0 h in
        (rest.0, omega (arith, rest.1, told.1, counts-cons is_right t ts, counts-cons is_left t ts))

pub expected_is : (ts : List Lexeme) (s : State) → run (Some start) ts ≡ Some s
    → expected_in s.mode s.depth ≡ expected_after ts
expected_is ts s h =
    let told = run_told ts None start s refl h in
    let depth : s.depth ≡ opened ts = omega (arith, told.1) in
    told.0 ∙ ap (expected_by (last_or None ts)) depth

-- ---- what was read, and what was refused

pub read_tree : (text : List ℕ) (ps : List Piece) → IsRead text ps → (t : Tree) × IsTreeText text t × Spells 0 t ps
read_tree text ps (s, h, is) =
    let P : Option State → Type 0 = λ o. Ends o ps in
    let w = ends_written (tokens text) ps (subst P (sym h) is) in
    let e = fits_tree ps w.1 in
    (e.0, (ps, w.0, e.1), e.1)

-- a text spells one tree at most
pub one_text_tree : (text : List ℕ) (t u : Tree) → IsTreeText text t → IsTreeText text u → t ≡ u
one_text_tree text t u first second =
    let same = one_end (run (Some start) (tokens text)) first.0 second.0
    (accepted_ends (tokens text) t first) (accepted_ends (tokens text) u second) in
    let P : List Piece → Type 0 = Spells 0 t in
    one_tree second.0 t u (subst P same first.2) second.2
  where
    one_end : (o : Option State) (ps qs : List Piece) → Ends o ps → Ends o qs → ps ≡ qs
    one_end None ps qs a b = absurd a
    one_end (Some s) ps qs a b = let e : Some ps ≡ Some qs = sym a ∙ b in cc

stuck_by : (before : List Placed) (s : State) (after : List Placed) → run (Some start) (lexemes before) ≡ Some s
    → DoNotFit s after → IsStuck IsAccepted (lexemes before) after
stuck_by before s [] h fits = early_end (lexemes before) s h fits
stuck_by before s (t ∷ ts) h fits =
    lost_stuck (lexemes before ++ t.token ∷ [])
    (run-append (Some start) (lexemes before) (t.token ∷ [])
    ∙ ap (λ (o : Option State). run o (t.token ∷ [])) h
    ∙ lost (step s t.token) fits)
  where
    lost : (o : Option State) → o ≡ None → run o [] ≡ None
    lost None e = refl
    lost (Some s) e = absurd cc

pub error_fault : (text : List ℕ) (r : Refusal) (e : ReadError) → IsStopped text r → Becomes r text e
    → OfParse e (λ p. IsFault text p.expected p.found p.span)
error_fault text r (errors.Memory a) stopped is = tt
error_fault text (refusal.Memory a) (errors.Parse p) stopped is = absurd is
error_fault text (refusal.Unexpected expected found span) (errors.Parse p) (s, after, reached, fits, of) is =
    record {
      before = reached.before;
      after = after;
      cut = reached.cut;
      completable = reached_completable (lexemes reached.before) s reached.leads;
      stuck = stuck_by reached.before s after reached.leads fits;
      is_expected = is.1 ∙ of.0 ∙ expected_is (lexemes reached.before) s reached.leads;
      is_found = is.2 ∙ of.1;
      is_at = is.3 ∙ of.2;
    }

-- a text with a fault is not accepted
pub fault_refuses : (accepts : List Lexeme → Type 0) (expects : List Lexeme → Expected) (text : List ℕ)
    (wanted : Expected) (found : Found) (span : Range ℕ) → IsFaultBy accepts expects text wanted found span
    → accepts (tokens text) → ⊥
fault_refuses accepts expects text wanted found span f accepted =
    by f.after f.stuck (ap lexemes f.cut ∙ lexemes-append f.before f.after)
  where
    by : (after : List Placed) → IsStuck accepts (lexemes f.before) after
        → tokens text ≡ lexemes f.before ++ lexemes after → ⊥
    by [] stuck is = stuck (subst accepts (is ∙ append-nil (lexemes f.before)) accepted)
    by (x ∷ xs) stuck is =
        stuck (
          lexemes xs,
          subst accepts (is ∙ sym (append_assoc (lexemes f.before) (x.token ∷ [])
              (lexemes xs))) accepted,
        )

pub error_refuses : (text : List ℕ) (r : Refusal) (e : ReadError) → IsStopped text r → Becomes r text e
    → OfParse e (λ p. (t : Tree) → IsTreeText text t → ⊥)
error_refuses text r (errors.Memory a) stopped is = tt
error_refuses text r (errors.Parse p) stopped is = λ t spells.
    fault_refuses IsAccepted expected_after text p.expected p.found p.span
    (error_fault text r (errors.Parse p) stopped is) (t, spells)
