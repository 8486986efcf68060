-- What is printed reads as the same parts.
use Rattle.std.proofs.Common.{◌≡◌, inl, refl, sym, ap, ◌∙◌, subst, ℕ, suc, ◌+◌, ◌<◌, Bool, true, false}
use Rattle.std.proofs.Common.{not, List, [], ◌∷◌, ◌++◌, append_assoc, Option, Some, None, arith, length}
use Rattle.std.proofs.Common.{take}
use Rattle.std.proofs.Common.{codes, get_or}
use Rattle.std.specs.Prelude.{◌==◌, ◌||◌, IfSome, IsTrue}
use Rattle.std.specs.List.{list_all, before_first, after_first, position_or_len}
use Rattle.std.proofs.lemmas.Bool.{and_parts}
use Rattle.std.proofs.lemmas.List.{drop_more, length-drop, take-append-drop}
use Rattle.std.proofs.lemmas.List.Sums.{passes_at_first}
use Rattle.std.proofs.lemmas.Bool.Decides.{nat_tests}
use Rattle.spdx_expressions.specs.Tokens.{is_word_byte, tokens_from, Lexeme, LeftBracket}
use Rattle.spdx_expressions.specs.Tokens.{RightBracket}
use Rattle.spdx_expressions.specs.Tokens.{Word, lexemes}
use Rattle.spdx_expressions.specs.Words.{is_id_byte, is_id_string, is_identifier, is_name, is_listed, is_own_reference}
use Rattle.spdx_expressions.specs.Words.{is_foreign_reference}
use Rattle.spdx_expressions.specs.Trees.{Term, Tree, Piece, Named, And, Or, Open, Close}
use Rattle.spdx_expressions.specs.Grammar.{IsTerm, plus, term_tokens, exception_tokens, IsWritten, AreWritten, AreTerms}
use Rattle.spdx_expressions.specs.Grammar.{Spells, IsWellFormed, IsTreeText}
use Rattle.spdx_expressions.specs.Tokens.{tokens}
use Rattle.spdx_expressions.specs.Inside.Reading.{State, IsRead, whole}
use Rattle.spdx_expressions.specs.declared.error.Refusal.{Refusal}
use Rattle.spdx_expressions.specs.declared.error.ReadError.{ReadError}
use Rattle.spdx_expressions.proofs.Written.{Ends}
use Rattle.spdx_expressions.specs.declared.error.ReadError.TheVariants as errors
use Rattle.spdx_expressions.specs.Errors.{OfParse}
use Rattle.spdx_expressions.specs.Inside.Reading.{IsStopped, Becomes}
use Rattle.spdx_expressions.proofs.Viable.{spelled_fits, accepted_ends, ends_written, error_refuses}
use Rattle.spdx_expressions.specs.Print.{print_exception, print_term, print_piece, print}
use Rattle.spdx_expressions.proofs.Cutting.{AllWord, EndsWord, word_first}
use Rattle.spdx_expressions.proofs.Fitting.{Fits}

id_is_word : (b : ℕ) → is_id_byte b ≡ true → is_word_byte b ≡ true
id_is_word b h = grind (arith, nat_tests)

all_id_word : (bs : List ℕ) → list_all is_id_byte bs ≡ true → AllWord bs
unfolding AllWord
all_id_word [] h = tt
all_id_word (b ∷ bs) h =
    let parts = and_parts (is_id_byte b) (list_all is_id_byte bs) h in
    (id_is_word b parts.0, all_id_word bs parts.1)

all_append : (xs bs : List ℕ) → AllWord xs → AllWord bs → AllWord (xs ++ bs)
unfolding AllWord
all_append [] bs a b = b
all_append (x ∷ xs) bs a b = (a.0, all_append xs bs a.1 b)

string_word : (bs : List ℕ) → is_id_string bs ≡ true → AllWord bs
string_word bs h = all_id_word bs (and_parts (not (length bs == 0)) _ h).1

own_word : (bs : List ℕ) → is_own_reference bs ≡ true → AllWord bs
own_word bs h = string_word bs (and_parts (is_id_string bs) _ h).0

foreign_word : (bs : List ℕ) → is_foreign_reference bs ≡ true → AllWord bs
unfolding AllWord
foreign_word bs h =
    let colon : ℕ → Bool = λ b. b == 0x3A in
    let k = position_or_len (λ b. b == 0x3A) bs in
    let after = after_first (λ b. b == 0x3A) bs in
    let own = (and_parts _ (is_own_reference after) h).1 in
    let first = (and_parts (is_id_string (before_first (λ b. b == 0x3A) bs)) _ (and_parts _
    (is_own_reference after) h).0).0 in
    let some = nonempty after own in
    let within : k < length bs = omega (arith, length-drop (k + 1) bs, some) in
    let byte = passes_at_first (λ b. b == 0x3A) bs 0 within in
    let is : bs ≡ take k bs ++ (get_or bs k 0 ∷ after) =
    sym (take-append-drop k bs) ∙ ap (λ (l : List ℕ). take k bs ++ l) (drop_more bs k 0 within) in
    let P : List ℕ → Type 0 = AllWord in
    subst P (sym is) (all_append (take k bs) (get_or bs k 0 ∷ after) (string_word (take k bs) first)
    (colon_word (get_or bs k 0) byte, own_word after own))
  where
    nonempty : (cs : List ℕ) → is_own_reference cs ≡ true → 0 < length cs
    nonempty [] h = absurd cc
    nonempty (c ∷ cs) h = omega arith

    colon_word : (b : ℕ) → (b == 0x3A) ≡ true → is_word_byte b ≡ true
    colon_word b h = grind (arith, nat_tests)

listed_word : (bs : List ℕ) → is_listed bs ≡ true → AllWord bs
listed_word bs h =
    string_word bs (and_parts (is_id_string bs) _ (and_parts (is_identifier bs) _ (and_parts _ _ h).0).0).0

name_word : (later : Bool) (bs : List ℕ) → is_name later bs ≡ true → AllWord bs
name_word true bs h = listed_word bs h
name_word false bs h = by (is_listed bs) (is_own_reference bs) (is_foreign_reference bs) refl refl refl h
  where
    by : (l o f : Bool) → is_listed bs ≡ l → is_own_reference bs ≡ o → is_foreign_reference bs ≡ f
        → (l || o || f) ≡ true → AllWord bs
    by true o f el eo ef e = listed_word bs el
    by false true f el eo ef e = own_word bs eo
    by false false true el eo ef e = foreign_word bs ef
    by false false false el eo ef e = absurd cc

plus_word : (later : Bool) → AllWord (plus later)
unfolding AllWord
plus_word true = (refl, tt)
plus_word false = tt

-- no name is empty
name_first : (later : Bool) (bs : List ℕ) → is_name later bs ≡ true → (b : ℕ) × (rest : List ℕ) × (bs ≡ b ∷ rest)
name_first true [] h = absurd cc
name_first false [] h = absurd cc
name_first later (b ∷ bs) h = (b, bs, refl)

identifier_first : (bs : List ℕ) → is_identifier bs ≡ true → (b : ℕ) × (rest : List ℕ) × (bs ≡ b ∷ rest)
identifier_first [] h = absurd cc
identifier_first (b ∷ bs) h = (b, bs, refl)

-- ---- the tokens of what is printed

-- a word and what follows it
word_tokens : (b at : ℕ) (w rest : List ℕ) → AllWord (b ∷ w) → EndsWord rest
    → lexemes (tokens_from at ((b ∷ w) ++ rest)) ≡ Word (b ∷ w) ∷ lexemes (tokens_from (at + 1 + length w) rest)
word_tokens b at w rest all ends = ap lexemes (word_first b at w rest all ends)

-- what is printed gives these tokens, and then those of what follows
abbrev Gives : List ℕ → List Lexeme → List ℕ → Type 0
Gives text ts rest = (at : ℕ) → (to : ℕ) × (lexemes (tokens_from at (text ++ rest)) ≡ ts ++ lexemes
    (tokens_from to rest))

first_word : (text : List ℕ) (rest : List ℕ) → ((b : ℕ) × (more : List ℕ) × (text ≡ b ∷ more)) → AllWord text
    → EndsWord rest
    → Gives text (Word text ∷ []) rest
first_word text rest (b, more, is) all ends = λ at.
    let P : List ℕ → Type 0 = λ t. AllWord t →
    (to : ℕ) × (lexemes (tokens_from at (t ++ rest)) ≡ (Word t ∷ []) ++ lexemes (tokens_from to rest)) in
    subst P (sym is) (λ each. (at + 1 + length more, word_tokens b at more rest each ends)) all

space_first : (text : List ℕ) (ts : List Lexeme) (rest : List ℕ) → Gives text ts rest → Gives (0x20 ∷ text) ts rest
space_first text ts rest g = λ at. g (at + 1)

two : (a b : List ℕ) (ts us : List Lexeme) (rest : List ℕ) → Gives a ts (b ++ rest) → Gives b us rest
    → Gives (a ++ b) (ts ++ us) rest
two a b ts us rest first second = λ at.
    let f = first at in
    let s = second f.0 in (
      s.0,
      ap (λ (t : List ℕ). lexemes (tokens_from at t)) (append_assoc a b rest) ∙ f.1
          ∙ ap (λ (l : List Lexeme). ts ++ l) s.1 ∙ sym (append_assoc ts us (lexemes (tokens_from s.0 rest))),
    )

exception_gives : (e : List ℕ) (rest : List ℕ) → is_identifier e ≡ true → EndsWord rest
    → Gives (codes " WITH " ++ e) (exception_tokens (Some e)) rest
unfolding AllWord EndsWord
exception_gives e rest is ends =
    space_first (codes "WITH " ++ e) (exception_tokens (Some e)) rest
    (two (codes "WITH") (codes " " ++ e) (Word (codes "WITH") ∷ []) (Word e ∷ []) rest
    (first_word (codes "WITH") ((codes " " ++ e) ++ rest) (0x57, codes "ITH", refl)
    (refl, (refl, (refl, (refl, tt)))) refl)
    (space_first e (Word e ∷ []) rest (first_word e rest (identifier_first e is)
    (string_word e (and_parts (is_id_string e) _ is).0) ends)))

ends_exception : (ex : Option (List ℕ)) (rest : List ℕ) → EndsWord rest → EndsWord (print_exception ex ++ rest)
unfolding EndsWord
ends_exception None rest h = h
ends_exception (Some e) rest h = refl

exceptions_give : (ex : Option (List ℕ)) (rest : List ℕ)
    → IfSome ex (λ e. IsTrue (is_identifier e)) → EndsWord rest → Gives (print_exception ex) (exception_tokens ex) rest
exceptions_give None rest is ends = λ at. (at, refl)
exceptions_give (Some e) rest is ends = exception_gives e rest is ends

operator_gives : (text : List ℕ) (rest : List ℕ) → ((b : ℕ) × (more : List ℕ) × (text ≡ b ∷ more)) → AllWord text
    → Gives (codes " " ++ (text ++ codes " ")) (Word text ∷ []) rest
unfolding EndsWord
operator_gives text rest first all =
    space_first (text ++ codes " ") (Word text ∷ []) rest
    (λ at. let w = first_word text (codes " " ++ rest) first all refl at in
    (w.0 + 1, ap (λ (t : List ℕ). lexemes (tokens_from at t)) (append_assoc text (codes " ") rest) ∙ w.1))

term_gives : (t : Term) (rest : List ℕ) → IsTerm t → EndsWord rest → Gives (print_term t) (term_tokens t) rest
term_gives t rest is ends =
    let word : List ℕ = t.name ++ plus t.or_later in
    let some : (b : ℕ) × (more : List ℕ) × (word ≡ b ∷ more) =
    (let f = name_first t.or_later t.name is.0 in
    (f.0, f.1 ++ plus t.or_later, ap (λ (l : List ℕ). l ++ plus t.or_later) f.2)) in
    two word (print_exception t.exception) (Word word ∷ []) (exception_tokens t.exception) rest
    (first_word word (print_exception t.exception ++ rest) some
    (all_append t.name (plus t.or_later) (name_word t.or_later t.name is.0) (plus_word t.or_later))
    (ends_exception t.exception rest ends))
    (exceptions_give t.exception rest is.1 ends)

-- after an operand no word goes on
ends_print : (ps : List Piece) (n : ℕ) → Fits false n ps → EndsWord (print ps)
unfolding EndsWord
ends_print [] n f = tt
ends_print (Named t ∷ ps) n f = absurd f
ends_print (Open ∷ ps) n f = absurd f
ends_print (And ∷ ps) n f = refl
ends_print (Or ∷ ps) n f = refl
ends_print (Close ∷ ps) n f = refl

one_more : (p : Piece) (ts : List Lexeme) (ps : List Piece) → IsWritten p ts → Gives (print_piece p) ts (print ps)
    → ((at : ℕ) → AreWritten ps (lexemes (tokens_from at (print ps))))
    → (at : ℕ) → AreWritten (p ∷ ps) (lexemes (tokens_from at (print (p ∷ ps))))
one_more p ts ps written gives rest = λ at.
    let g = gives at in (ts, lexemes (tokens_from g.0 (print ps)), written, rest g.0, g.1)

pub printed : (ps : List Piece) (w : Bool) (n : ℕ) → Fits w n ps → AreTerms ps
    → (at : ℕ) → AreWritten ps (lexemes (tokens_from at (print ps)))
unfolding AllWord
printed [] true n f terms = absurd f
printed [] false n f terms = λ at. refl
printed (Named t ∷ ps) false n f terms = absurd f
printed (Named t ∷ ps) true n f terms =
    one_more (Named t) (term_tokens t) ps (terms.0, refl) (term_gives t (print ps) terms.0 (ends_print ps n f))
    (printed ps false n f terms.1)
printed (Open ∷ ps) false n f terms = absurd f
printed (Open ∷ ps) true n f terms =
    one_more Open (LeftBracket ∷ []) ps refl (λ at. (at + 1, refl)) (printed ps true (suc n) f terms)
printed (Close ∷ ps) true n f terms = absurd f
printed (Close ∷ ps) false n f terms =
    one_more Close (RightBracket ∷ []) ps refl (λ at. (at + 1, refl)) (printed ps false f.0 f.2 terms)
printed (And ∷ ps) true n f terms = absurd f
printed (And ∷ ps) false n f terms =
    one_more And (Word (codes "AND") ∷ []) ps refl
    (operator_gives (codes "AND") (print ps) (0x41, codes "ND", refl) (refl, (refl, (refl, tt))))
    (printed ps true n f terms)
printed (Or ∷ ps) true n f terms = absurd f
printed (Or ∷ ps) false n f terms =
    one_more Or (Word (codes "OR") ∷ []) ps (inl refl)
    (operator_gives (codes "OR") (print ps) (0x4F, codes "R", refl) (refl, (refl, tt)))
    (printed ps true n f terms)

-- ---- the whole

-- the printed text of well-formed parts is written as these
pub print_written : (ps : List Piece) → IsWellFormed ps → AreWritten ps (tokens (print ps))
print_written ps (t, spells, terms) = printed ps true 0 (spelled_fits t ps spells) terms 0

pub print_spells : (ps : List Piece) (t : Tree) → Spells 0 t ps → AreTerms ps → IsTreeText (print ps) t
print_spells ps t spells terms = (ps, print_written ps (t, spells, terms), spells)

-- and is read as these
pub print_read : (text : List ℕ) (ps qs : List Piece) → IsWellFormed ps → text ≡ print ps → IsRead text qs → qs ≡ ps
print_read text ps qs well is (s, h, ends) =
    let P : List ℕ → Type 0 = λ x. IsTreeText x well.0 in
    let Q : List ℕ → Type 0 = λ x. AreWritten ps (tokens x) in
    let spelled : AreWritten ps (tokens text) = subst Q (sym is) (print_written ps well) in
    let wanted = accepted_ends (tokens text) well.0 (ps, spelled, well.1) in
    let R : Option State → Type 0 = λ o. Ends o ps in
    let other : whole s ≡ Some ps = subst R h wanted in
    let e : Some qs ≡ Some ps = sym ends ∙ other in
    cc

pub written_terms : (ps : List Piece) (ts : List Lexeme) → AreWritten ps ts → AreTerms ps
written_terms [] ts w = tt
written_terms (Named t ∷ ps) ts (first, rest, written, others, is) = (written.0, written_terms ps rest others)
written_terms (And ∷ ps) ts (first, rest, written, others, is) = written_terms ps rest others
written_terms (Or ∷ ps) ts (first, rest, written, others, is) = written_terms ps rest others
written_terms (Open ∷ ps) ts (first, rest, written, others, is) = written_terms ps rest others
written_terms (Close ∷ ps) ts (first, rest, written, others, is) = written_terms ps rest others

pub read_written : (text : List ℕ) (ps : List Piece) → IsRead text ps → AreWritten ps (tokens text)
read_written text ps (s, h, is) =
    let P : Option State → Type 0 = λ o. Ends o ps in
    (ends_written (tokens text) ps (subst P (sym h) is)).0

-- and is not refused
pub print_refused : (text : List ℕ) (ps : List Piece) (r : Refusal) (e : ReadError) → IsWellFormed ps → text ≡ print ps
    → IsStopped text r → Becomes r text e → OfParse e (λ p. ⊥)
print_refused text ps r (errors.Memory a) well is stopped becomes = tt
print_refused text ps r (errors.Parse p) well is stopped becomes =
    let P : List ℕ → Type 0 = λ x. IsTreeText x well.0 in
    error_refuses text r (errors.Parse p) stopped becomes well.0
    (subst P (sym is) (print_spells ps well.0 well.1 well.2))
