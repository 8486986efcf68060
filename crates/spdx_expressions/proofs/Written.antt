-- From tokens to parts and back.
use Rattle.std.proofs.Common.{◌≡◌, inl, inr, refl, sym, ap, ◌∙◌, subst, ℕ, suc, zero, ◌+◌, Bool, true, false}
use Rattle.std.proofs.Common.{List, [], ◌∷◌, ◌++◌, append_assoc, append-nil, Option, Some, None, cond, add-one}
use Rattle.std.specs.Prelude.{bytes_eq, codes}
use Rattle.std.proofs.lemmas.Slice.Eq.{bytes_eq-Decides}
use Rattle.spdx_expressions.specs.Tokens.{Lexeme, LeftBracket, RightBracket, Slash, Word}
use Rattle.spdx_expressions.specs.Words.{is_identifier}
use Rattle.spdx_expressions.specs.Trees.{Term, Piece, Named, And, Or, Open, Close}
use Rattle.spdx_expressions.specs.Grammar.{IsTerm, plus, exception_tokens, term_tokens, IsWritten, AreWritten}
use Rattle.spdx_expressions.specs.Inside.Reading.{named, State, Mode, Wants, Licensed, Excepts, Behind, run}
use Rattle.spdx_expressions.specs.Inside.Reading.{whole}
use Rattle.spdx_expressions.specs.Inside.Reading.{at, by_name, behind}
use Rattle.spdx_expressions.specs.Inside.Reading.{with_exception}
use Rattle.spdx_expressions.proofs.Names.{named_sound, named_complete}
use Rattle.spdx_expressions.proofs.Fitting.{Fits}

-- the way ended in these parts
abbrev pub Ends : Option State → List Piece → Type 0
Ends None qs = ⊥
Ends (Some s) qs = whole s ≡ Some qs

abbrev pub word_of : Term → List ℕ
word_of t = t.name ++ plus t.or_later

-- the tokens of a part that is not whole yet
abbrev pub pending : Mode → List Lexeme
pending Wants = []
pending (Licensed t) = Word (word_of t) ∷ []
pending (Excepts t) = Word (word_of t) ∷ Word (codes "WITH") ∷ []
pending Behind = []

abbrev pub wanting : Mode → Bool
wanting Wants = true
wanting (Licensed t) = true
wanting (Excepts t) = true
wanting Behind = false

-- a licence that is not whole is one, and has no exception yet
abbrev pub IsKept : Mode → Type 0
IsKept Wants = Unit {0}
IsKept (Licensed t) = IsTerm t × (t.exception ≡ None)
IsKept (Excepts t) = IsTerm t × (t.exception ≡ None)
IsKept Behind = Unit {0}

-- the parts that tokens add
abbrev pub Adds : Mode → ℕ → List Piece → List Lexeme → List Piece → Type 0
Adds mode n ps ts qs =
    (rest : List Piece) × (qs ≡ ps ++ rest) × AreWritten rest (pending mode ++ ts) × Fits (wanting mode) n rest

abbrev state : Mode → ℕ → List Piece → State
state mode n ps = record { mode = mode; depth = n; parts = ps }

-- of each state that is kept, the tokens add parts where they lead to an end
abbrev IsSound : List Lexeme → Type 0
IsSound ts = (mode : Mode) (n : ℕ) (ps qs : List Piece) → IsKept mode → Ends (run (Some (state mode n ps)) ts) qs
    → Adds mode n ps ts qs

-- one more part before what is added
more : (ps qs : List Piece) (p : Piece) (rest : List Piece) → qs ≡ (ps ++ p ∷ []) ++ rest → qs ≡ ps ++ p ∷ rest
more ps qs p rest e = e ∙ append_assoc ps (p ∷ []) rest

same_some : (a b : List Piece) → Some a ≡ Some b → a ≡ b
same_some a b h = cc

pub is_word : (w : List ℕ) (text : List ℕ) → bytes_eq w text ≡ true → w ≡ text
is_word w text h = (bytes_eq-Decides w text).0 h

behind_sound : (t : Lexeme) (ts : List Lexeme) → IsSound ts → (n : ℕ) (ps qs : List Piece)
    → Ends (run (behind n ps t) ts) qs → Adds Behind n ps (t ∷ ts) qs
behind_sound LeftBracket ts sound n ps qs h = absurd h
behind_sound RightBracket ts sound zero ps qs h = absurd h
behind_sound RightBracket ts sound (suc n) ps qs h =
    let a = sound Behind n (ps ++ Close ∷ []) qs tt h in
    (Close ∷ a.0, more ps qs Close a.0 a.1, (RightBracket ∷ [], ts, refl, a.2, refl), (n, refl, a.3))
behind_sound Slash ts sound n ps qs h =
    let a = sound Wants n (ps ++ Or ∷ []) qs tt h in
    (Or ∷ a.0, more ps qs Or a.0 a.1, (Slash ∷ [], ts, inr refl, a.2, refl), a.3)
behind_sound (Word w) ts sound n ps qs h = by (bytes_eq w (codes "AND")) (bytes_eq w (codes "OR")) refl refl h
  where
    by : (a o : Bool) → bytes_eq w (codes "AND") ≡ a → bytes_eq w (codes "OR") ≡ o
        → Ends (run (cond a (at Wants n (ps ++ And ∷ [])) (cond o (at Wants n (ps ++ Or ∷ [])) None)) ts) qs
        → Adds Behind n ps (Word w ∷ ts) qs
    by true o ea eo h =
        let a = sound Wants n (ps ++ And ∷ []) qs tt h in (
          And ∷ a.0,
          more ps qs And a.0 a.1,
          (Word w ∷ [], ts, ap (λ (u : List ℕ). Word u ∷ []) (is_word w (codes "AND") ea), a.2, refl),
          a.3,
        )
    by false true ea eo h =
        let a = sound Wants n (ps ++ Or ∷ []) qs tt h in (
          Or ∷ a.0,
          more ps qs Or a.0 a.1,
          (Word w ∷ [], ts, inl (ap (λ (u : List ℕ). Word u ∷ []) (is_word w (codes "OR") eo)), a.2, refl),
          a.3,
        )
    by false false ea eo h = absurd h

-- a licence with no exception, and what is added after it
with_term : (t : Term) (n : ℕ) (ps qs : List Piece) (ts : List Lexeme) → IsTerm t → t.exception ≡ None
    → Adds Behind n (ps ++ Named t ∷ []) ts qs → Adds (Licensed t) n ps ts qs
with_term t n ps qs ts is none a = (
  Named t ∷ a.0,
  more ps qs (Named t) a.0 a.1,
  (
    Word (word_of t) ∷ [],
    ts,
    (is, ap (λ (e : Option (List ℕ)). Word (word_of t) ∷ exception_tokens e) (sym none)),
    a.2,
    refl,
  ),
  a.3,
)

name_sound : (w : List ℕ) (ts : List Lexeme) → IsSound ts → (n : ℕ) (ps qs : List Piece) (o : Option Term) → named w ≡ o
    → Ends (run (by_name o n ps) ts) qs → Adds Wants n ps (Word w ∷ ts) qs
name_sound w ts sound n ps qs None e h = absurd h
name_sound w ts sound n ps qs (Some t) e h =
    let is = named_sound w t e in
    let a = sound (Licensed t) n ps qs (is.0, is.1) h in
    let P : List ℕ → Type 0 = λ u. AreWritten a.0 (Word u ∷ ts) in
    (a.0, a.1, subst P (sym is.2) a.2, a.3)

with_sound : (w : List ℕ) (ts : List Lexeme) → IsSound ts → (t : Term) (n : ℕ) (ps qs : List Piece)
    → IsKept (Licensed t) → (b : Bool) → bytes_eq w (codes "WITH") ≡ b
    → Ends (run (cond b (at (Excepts t) n ps) (behind n (ps ++ Named t ∷ []) (Word w))) ts) qs
    → Adds (Licensed t) n ps (Word w ∷ ts) qs
with_sound w ts sound t n ps qs kept true e h =
    let a = sound (Excepts t) n ps qs kept h in
    let P : List ℕ → Type 0 = λ u. AreWritten a.0 (Word (word_of t) ∷ Word u ∷ ts) in
    (a.0, a.1, subst P (sym (is_word w (codes "WITH") e)) a.2, a.3)
with_sound w ts sound t n ps qs kept false e h =
    with_term t n ps qs (Word w ∷ ts) kept.0 kept.1 (behind_sound (Word w) ts sound n (ps ++ Named t ∷ []) qs h)

exception_sound : (w : List ℕ) (ts : List Lexeme) → IsSound ts → (t : Term) (n : ℕ) (ps qs : List Piece)
    → IsKept (Excepts t) → (b : Bool) → is_identifier w ≡ b
    → Ends (run (cond b (at Behind n (ps ++ Named (with_exception t w) ∷ [])) None) ts) qs
    → Adds (Excepts t) n ps (Word w ∷ ts) qs
exception_sound w ts sound t n ps qs kept false e h = absurd h
exception_sound w ts sound t n ps qs kept true e h =
    let a = sound Behind n (ps ++ Named (with_exception t w) ∷ []) qs tt h in (
      Named (with_exception t w) ∷ a.0,
      more ps qs (Named (with_exception t w)) a.0 a.1,
      (term_tokens (with_exception t w), ts, ((kept.0.0, e), refl), a.2, refl),
      a.3,
    )

pub sound : (ts : List Lexeme) → IsSound ts
sound [] Wants n ps qs kept h = absurd cc
sound [] (Licensed t) zero ps qs kept h =
    with_term t 0 ps qs [] kept.0 kept.1 (
      [],
      sym (same_some _ qs h) ∙ sym (append-nil (ps ++ Named t ∷ [])),
      refl,
      refl,
    )
sound [] (Licensed t) (suc n) ps qs kept h = absurd cc
sound [] (Excepts t) n ps qs kept h = absurd cc
sound [] Behind zero ps qs kept h = ([], sym (same_some ps qs h) ∙ sym (append-nil ps), refl, refl)
sound [] Behind (suc n) ps qs kept h = absurd cc
sound (t ∷ ts) Behind n ps qs kept h = behind_sound t ts (sound ts) n ps qs h
sound (LeftBracket ∷ ts) Wants n ps qs kept h =
    let a = sound ts Wants (n + 1) (ps ++ Open ∷ []) qs tt h in (
      Open ∷ a.0,
      more ps qs Open a.0 a.1,
      (LeftBracket ∷ [], ts, refl, a.2, refl),
      let P : ℕ → Type 0 = λ m. Fits true m a.0 in subst P (add-one n) a.3,
    )
sound (RightBracket ∷ ts) Wants n ps qs kept h = absurd h
sound (Slash ∷ ts) Wants n ps qs kept h = absurd h
sound (Word w ∷ ts) Wants n ps qs kept h = name_sound w ts (sound ts) n ps qs (named w) refl h
sound (LeftBracket ∷ ts) (Licensed t) n ps qs kept h = absurd h
sound (RightBracket ∷ ts) (Licensed t) n ps qs kept h =
    with_term t n ps qs (RightBracket ∷ ts) kept.0 kept.1 (behind_sound RightBracket ts (sound ts) n
    (ps ++ Named t ∷ []) qs h)
sound (Slash ∷ ts) (Licensed t) n ps qs kept h =
    with_term t n ps qs (Slash ∷ ts) kept.0 kept.1 (behind_sound Slash ts (sound ts) n (ps ++ Named t ∷ []) qs h)
sound (Word w ∷ ts) (Licensed t) n ps qs kept h =
    with_sound w ts (sound ts) t n ps qs kept (bytes_eq w (codes "WITH")) refl h
sound (LeftBracket ∷ ts) (Excepts t) n ps qs kept h = absurd h
sound (RightBracket ∷ ts) (Excepts t) n ps qs kept h = absurd h
sound (Slash ∷ ts) (Excepts t) n ps qs kept h = absurd h
sound (Word w ∷ ts) (Excepts t) n ps qs kept h =
    exception_sound w ts (sound ts) t n ps qs kept (is_identifier w) refl h

-- ---- and back

abbrev Leads : Mode → ℕ → List Piece → List Lexeme → List Piece → Type 0
Leads mode n ps ts qs = Ends (run (Some (state mode n ps)) ts) qs

-- parts that fit lead to an end that has them
pub record IsComplete (rest : List Piece) (ts : List Lexeme) (n : ℕ) (ps : List Piece) : Type 0 where
  pub wants : Fits true n rest → Leads Wants n ps ts (ps ++ rest)
  pub behind : Fits false n rest → Leads Behind n ps ts (ps ++ rest)
  pub licensed : (t : Term) → Fits false n rest → Leads (Licensed t) n ps ts ((ps ++ Named t ∷ []) ++ rest)

abbrev without_exception : List ℕ → Bool → Term
without_exception name later = record { name = name; or_later = later; exception = None }

regroup : (mode : Mode) (n : ℕ) (now ps : List Piece) (p : Piece) (rest : List Piece) (us : List Lexeme)
    → Leads mode n now us ((ps ++ p ∷ []) ++ rest) → Leads mode n now us (ps ++ p ∷ rest)
regroup mode n now ps p rest us h =
    let P : List Piece → Type 0 = Leads mode n now us in subst P (append_assoc ps (p ∷ []) rest) h

-- a licence with no exception is whole
plain_leads : (t : Term) (n : ℕ) (ps : List Piece) (rest : List Piece) (us : List Lexeme) → t.exception ≡ None
    → IsComplete rest us n ps → Fits false n rest
    → Leads (Licensed (without_exception t.name t.or_later)) n ps us (ps ++ Named t ∷ rest)
plain_leads t n ps rest us none all f =
    let is : without_exception t.name t.or_later ≡ t = ap (λ (e : Option (List ℕ)). record {
      name =
          t.name;
      or_later = t.or_later;
      exception = e;
    }) (sym none) in
    let P : Term → Type 0 = λ u. Leads (Licensed u) n ps us (ps ++ Named t ∷ rest) in
    subst P (sym is) (regroup (Licensed t) n ps ps (Named t) rest us (all.licensed t f))

-- a licence is read
term_leads : (name : List ℕ) (later : Bool) (ex : Option (List ℕ)) (n : ℕ) (ps qs : List Piece) (us : List Lexeme)
    → IsTerm (record { name = name; or_later = later; exception = ex })
    → (ex ≡ None → Leads (Licensed (without_exception name later)) n ps us qs)
    → Leads Behind n (ps ++ Named (record { name = name; or_later = later; exception = ex }) ∷ []) us qs
    → Leads Wants n ps (term_tokens (record { name = name; or_later = later; exception = ex }) ++ us) qs
term_leads name later None n ps qs us is plain full =
    let P : Option Term → Type 0 = λ o. Ends (run (by_name o n ps) us) qs in
    subst P (sym (named_complete (record { name = name; or_later = later; exception = None }) is)) (plain refl)
term_leads name later (Some e) n ps qs us is plain full =
    let P : Option Term → Type 0 = λ o. Ends (run (by_name o n ps) (Word (codes "WITH") ∷ Word e ∷ us)) qs in
    subst P (sym (named_complete (record { name = name; or_later = later; exception = Some e }) is))
    (let Q : Bool → Type 0 = λ b. Ends (run (cond b (at Behind n
    (ps ++ Named (record { name = name; or_later = later; exception = Some e }) ∷ [])) None) us) qs in
    subst Q (sym is.1) full)

-- a part, before parts that lead to an end
part_complete : (p : Piece) (rest : List Piece) (first us : List Lexeme) (n : ℕ) (ps : List Piece) → IsWritten p first
    → ((m : ℕ) (now : List Piece) → IsComplete rest us m now) → IsComplete (p ∷ rest) (first ++ us) n ps
part_complete (Named t) rest first us n ps (is, e) all =
    let P : List Lexeme → Type 0 = λ l. IsComplete (Named t ∷ rest) (l ++ us) n ps in
    subst P (sym e) (record {
      wants = λ f. term_leads t.name t.or_later t.exception n ps (ps ++ Named t ∷ rest) us is
          (λ none. plain_leads t n ps rest us none (all n ps) f)
          (regroup Behind n (ps ++ Named t ∷ []) ps (Named t) rest us ((all n (ps ++ Named t ∷ [])).behind f));
      behind = λ f. absurd f;
      licensed = λ u f. absurd f;
    })
part_complete Open rest first us n ps e all =
    let P : List Lexeme → Type 0 = λ l. IsComplete (Open ∷ rest) (l ++ us) n ps in
    subst P (sym e) (record {
      wants = λ f. let Q : ℕ → Type 0 = λ m. Fits true m rest in
          regroup Wants (n + 1) (ps ++ Open ∷ []) ps Open rest us
          ((all (n + 1) (ps ++ Open ∷ [])).wants (subst Q (sym (add-one n)) f));
      behind = λ f. absurd f;
      licensed = λ u f. absurd f;
    })
part_complete Close rest first us n ps e all =
    let P : List Lexeme → Type 0 = λ l. IsComplete (Close ∷ rest) (l ++ us) n ps in
    subst P (sym e) (record {
      wants = λ f. absurd f;
      behind = λ f. let Q : ℕ → Type 0 = λ m. Leads Behind m ps (RightBracket ∷ us) (ps ++ Close ∷ rest) in
          subst Q (sym f.1) (regroup Behind f.0 (ps ++ Close ∷ []) ps Close rest us
          ((all f.0 (ps ++ Close ∷ [])).behind f.2));
      licensed = λ u f. let now : List Piece = ps ++ Named u ∷ [] in
          let Q : ℕ → Type 0 = λ m. Leads (Licensed u) m ps (RightBracket ∷ us) (now ++ Close ∷ rest) in
          subst Q (sym f.1) (regroup Behind f.0 (now ++ Close ∷ []) now Close rest us
          ((all f.0 (now ++ Close ∷ [])).behind f.2));
    })
part_complete And rest first us n ps e all =
    let P : List Lexeme → Type 0 = λ l. IsComplete (And ∷ rest) (l ++ us) n ps in
    subst P (sym e) (record {
      wants = λ f. absurd f;
      behind = λ f. regroup Wants n (ps ++ And ∷ []) ps And rest us ((all n (ps ++ And ∷ [])).wants f);
      licensed = λ u f. let now : List Piece = ps ++ Named u ∷ [] in
          regroup Wants n (now ++ And ∷ []) now And rest us ((all n (now ++ And ∷ [])).wants f);
    })
part_complete Or rest first us n ps (inl e) all =
    let P : List Lexeme → Type 0 = λ l. IsComplete (Or ∷ rest) (l ++ us) n ps in
    subst P (sym e) (record {
      wants = λ f. absurd f;
      behind = λ f. regroup Wants n (ps ++ Or ∷ []) ps Or rest us ((all n (ps ++ Or ∷ [])).wants f);
      licensed = λ u f. let now : List Piece = ps ++ Named u ∷ [] in
          regroup Wants n (now ++ Or ∷ []) now Or rest us ((all n (now ++ Or ∷ [])).wants f);
    })
part_complete Or rest first us n ps (inr e) all =
    let P : List Lexeme → Type 0 = λ l. IsComplete (Or ∷ rest) (l ++ us) n ps in
    subst P (sym e) (record {
      wants = λ f. absurd f;
      behind = λ f. regroup Wants n (ps ++ Or ∷ []) ps Or rest us ((all n (ps ++ Or ∷ [])).wants f);
      licensed = λ u f. let now : List Piece = ps ++ Named u ∷ [] in
          regroup Wants n (now ++ Or ∷ []) now Or rest us ((all n (now ++ Or ∷ [])).wants f);
    })

pub complete : (rest : List Piece) (ts : List Lexeme) → AreWritten rest ts → (n : ℕ) (ps : List Piece)
    → IsComplete rest ts n ps
complete [] ts e n ps =
    let P : List Lexeme → Type 0 = λ l. IsComplete [] l n ps in
    subst P (sym e) (record {
      wants = λ f. absurd f;
      behind = λ f. let Q : ℕ → Type 0 = λ m. Leads Behind m ps [] (ps ++ []) in
          subst Q (sym f) (ap Some (sym (append-nil ps)));
      licensed = λ t f. let Q : ℕ → Type 0 = λ m. Leads (Licensed t) m ps [] ((ps ++ Named t ∷ []) ++ []) in
          subst Q (sym f) (ap Some (sym (append-nil (ps ++ Named t ∷ []))));
    })
complete (p ∷ rest) ts (first, us, written, others, e) n ps =
    let P : List Lexeme → Type 0 = λ l. IsComplete (p ∷ rest) l n ps in
    subst P (sym e) (part_complete p rest first us n ps written (complete rest us others))
