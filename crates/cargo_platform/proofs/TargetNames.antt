-- Target names: what none of them holds, where a text stops being one, and the message about it.
use Rattle.std.proofs.Common.{◌≡◌, refl, sym, ap, ◌∙◌, subst, ℕ, Bool, true, false, true≢false, not, ◌<◌, cond, List}
use Rattle.std.proofs.Common.{[], ◌∷◌, ◌++◌, length, codes, get_or, Option, Some, None, MatchOption, find, IsTrue}
use Rattle.std.proofs.Common.{IsFalse, IsUtf8, MatchBool, option_map, inl, inr, ◌==◌, ◌||◌, eq-eqb, eqb-true, chars}
use Rattle.std.proofs.Common.{encode_utf8, encode_utf8_all, append_assoc, length-append, arith, ◌+◌, ◌≤◌, drop}
use Rattle.std.proofs.Common.{take, length-take, take-append-drop}
use Rattle.std.specs.Char.{IsScalar, len_utf8}
use Rattle.std.specs.declared.ops.Range.{Range}
use Rattle.std.specs.List.{list_all, list_any}
use Rattle.std.specs.Str.{all_scalars, NonePass, NoCharPasses, IsCharBoundary}
use Rattle.std.specs.Str.Pattern.{FindsChar, FindsTextPrefix, HasMatch, HasPrefixMatch, MatchBeginsAt}
use Rattle.std.proofs.lemmas.Bool.{agree_below_at, and_from, and_parts, false_from_ne_true, or_cases}
use Rattle.std.proofs.lemmas.Str.{NoCharPasses-byte, encode_ascii, encode_same, length-encode, len_utf8_bounds}
use Rattle.std.proofs.lemmas.Str.{chars_from_encodes}
use Rattle.std.proofs.lemmas.Str.Pattern.{contains_char}
use Rattle.std.proofs.lemmas.List.{get_or_default}
use Rattle.std.proofs.lemmas.List.Folds.{Any-from_list_any}
use Rattle.std.proofs.lemmas.List.Recursion.{or_is}
use lib.Utf8.{low_scalar}
use Rattle.ucd_table.specs.Rows.{in_ranges, value_in}
use Rattle.ucd_derived.specs.AlphabeticRanges.{alphabetic_ranges}
use Rattle.ucd_category.specs.GeneralCategoryRows.{general_category_rows}
use Rattle.unicode.specs.Binary.{is_alphabetic}
use Rattle.unicode.specs.GeneralCategory.{general_category}
use Rattle.cargo_platform.specs.Chars.{BeginsWith, is_identifier_rest}
use Rattle.cargo_platform.specs.Platforms.{is_target_char, is_plain_byte, IsTargetName, IsFirstRefused, IsTargetMessage}
use Rattle.cargo_platform.specs.Platforms.{IsBare, IsTargetSpan}
use Rattle.cargo_platform.specs.Faults.{from_to}
use Rattle.cargo_platform.proofs.SomeCut.{rest_is_ascii}

-- ---- `cfg(..)` is no target name

parenthesis_refused : IsFalse (is_target_char 0x28)
unfolding is_alphabetic general_category in_ranges value_in alphabetic_ranges general_category_rows
parenthesis_refused = refl

none_pass : (t : ℕ → Bool) (cs : List ℕ) → IsTrue (list_all t cs) → NonePass (λ c. not (t c)) cs
none_pass t [] h = tt
none_pass t (c ∷ cs) h = let parts = and_parts _ _ h in (ap not parts.0, none_pass t cs parts.1)

-- a text with a `(` is no target name
no_parenthesis : (text : List ℕ) (i : ℕ) → i < length text → get_or text i 0 ≡ 0x28 → IsTargetName text → ⊥
no_parenthesis text i below held w =
    let passed : not (is_target_char (get_or text i 0)) ≡ false = NoCharPasses-byte
    (λ c. not (is_target_char c)) text i (w.0, sym w.2, none_pass is_target_char w.0 w.3) below
    (omega (arith, held)) in
    true≢false (ap not (sym parenthesis_refused) ∙ ap (λ c. not (is_target_char c)) (sym held) ∙ passed)

-- a target name is no `cfg(..)`
pub name_is_bare : (name : List ℕ) → IsTargetName name → IsBare name
name_is_bare name w =
    λ inner h. no_parenthesis (codes "cfg(" ++ inner ++ codes ")") 3 (omega arith) refl (subst IsTargetName h w)

-- ---- plain names

plain_is_ascii : (b : ℕ) → is_plain_byte b ≡ true → b < 128
plain_is_ascii b h =
    elim (or_cases (is_identifier_rest b || b == 0x2D) (b == 0x2E) h) [
      | inr e ↦ omega (arith, eqb-true b 0x2E e)
      | inl e ↦ elim (or_cases (is_identifier_rest b) (b == 0x2D) e) [
        | inr f ↦ omega (arith, eqb-true b 0x2D f)
        | inl f ↦ rest_is_ascii b f
      ]
    ]

-- in each of the 128 rows
plain_or_not : (b : ℕ) → b < 128 → (not (is_plain_byte b) || is_target_char b) ≡ true
unfolding is_alphabetic general_category in_ranges value_in alphabetic_ranges general_category_rows
plain_or_not b small = agree_below_at (λ c. not (is_plain_byte c) || is_target_char c) (λ c. true) 128 b refl small

passes_where : (p t : Bool) → (not p || t) ≡ true → p ≡ true → t ≡ true
passes_where p t h is = grind arith

pub plain_name : (text : List ℕ) → list_all is_plain_byte text ≡ true → IsTargetName text
plain_name [] h = ([], refl, refl, refl)
plain_name (b ∷ text) h =
    let parts = and_parts _ _ h in
    let small : b < 128 = plain_is_ascii b parts.0 in
    let rest = plain_name text parts.1 in (
      b ∷ rest.0,
      and_from _ _ (low_scalar b (omega (arith, small))) rest.1,
      ap (λ (z : List ℕ). b ∷ z) rest.2 ∙ ap (λ (z : List ℕ). z ++ encode_utf8_all rest.0) (sym (encode_ascii b small)),
      and_from _ _ (passes_where (is_plain_byte b) (is_target_char b) (plain_or_not b small) parts.0) rest.3,
    )

-- ---- the first refused character

-- each character of the text passes a test
abbrev AllPass : (ℕ → Bool) → List ℕ → Type 0
AllPass t text = (cs : List ℕ) × IsTrue (all_scalars cs) × (text ≡ encode_utf8_all cs) × IsTrue (list_all t cs)

-- c is the first character of the text that fails a test
abbrev FirstFails : (ℕ → Bool) → List ℕ → ℕ → Type 0
FirstFails t text c =
    (prefix rest : List ℕ) × (text ≡ prefix ++ rest) × AllPass t prefix × ((after : List ℕ) × BeginsWith rest c after)
    × IsFalse (t c)

abbrev Found : (ℕ → Bool) → List ℕ → Option ℕ → Type 0
Found t cs o = MatchOption o (AllPass t (encode_utf8_all cs)) (λ c. FirstFails t (encode_utf8_all cs) c)

-- a character that passes comes before it
further : (t : ℕ → Bool) (c : ℕ) (cs : List ℕ) (o : Option ℕ) → IsTrue (t c) → IsScalar c → Found t cs o
    → Found t (c ∷ cs) o
further t c cs None h s m =
    (c ∷ m.0, and_from _ _ s m.1, ap (λ (z : List ℕ). encode_utf8 c ++ z) m.2, and_from _ _ h m.3)
further t c cs (Some d) h s m = (
  encode_utf8 c ++ m.0,
  m.1,
  ap (λ (z : List ℕ). encode_utf8 c ++ z) m.2 ∙ sym (append_assoc (encode_utf8 c) m.0 m.1),
  (c ∷ m.3.0, and_from _ _ s m.3.1, ap (λ (z : List ℕ). encode_utf8 c ++ z) m.3.2, and_from _ _ h m.3.3),
  m.4,
  m.5,
)

at_first : (t : ℕ → Bool) (c : ℕ) (cs : List ℕ) (b : Bool) → t c ≡ b → IsScalar c
    → Found t cs (find (λ d. not (t d)) cs) → Found t (c ∷ cs) (cond (not b) (Some c) (find (λ d. not (t d)) cs))
at_first t c cs true h s m = further t c cs (find (λ d. not (t d)) cs) h s m
at_first t c cs false h s m = (
  [],
  encode_utf8_all (c ∷ cs),
  refl,
  ([], refl, refl, refl),
  (encode_utf8_all cs, record { scalar = s; parts = refl }),
  h,
)

found : (t : ℕ → Bool) (cs : List ℕ) → IsTrue (all_scalars cs) → Found t cs (find (λ d. not (t d)) cs)
found t [] s = ([], refl, refl, refl)
found t (c ∷ cs) s = let parts = and_parts _ _ s in at_first t c cs (t c) refl parts.0 (found t cs parts.1)

pub same_option : (o : Option ℕ) → option_map (λ (c : ℕ). c) o ≡ o
same_option None = refl
same_option (Some c) = refl

-- a search for a refused character finds the first one, or the text is a target name
pub first_refused_found : (text : List ℕ) (o : Option ℕ) → IsUtf8 text
    → option_map (λ (c : ℕ). c) o ≡ find (λ c. not (is_target_char c)) (chars text)
    → MatchOption o (IsTargetName text) (λ c. IsFirstRefused text c)
first_refused_found text o u h =
    let Q : Option ℕ
    → Type 0 =
    λ z. MatchOption z (IsTargetName (encode_utf8_all u.0)) (λ c. IsFirstRefused (encode_utf8_all u.0) c) in
    let cs : u.0 ≡ chars text = chars_from_encodes u.0 text u u.1.1 in
    let o_is : find (λ c. not (is_target_char c)) u.0 ≡ o = ap (find (λ c. not (is_target_char c))) cs ∙ sym h
    ∙ same_option o in
    rw (← u.1.1) (subst Q o_is (found is_target_char u.0 u.1.0))

-- ---- a text with a refused character is no target name

nonempty : (c : ℕ) (rest : List ℕ) → encode_utf8 c ++ rest ≡ [] → ⊥
nonempty c rest h =
    absurd (omega (arith, ap length h, length-append (encode_utf8 c) rest, length-encode c, (len_utf8_bounds c).0))

fails_not_all : (t : ℕ → Bool) (fs cs after : List ℕ) (c : ℕ) → IsFalse (t c) → IsTrue (list_all t cs)
    → encode_utf8_all fs ++ (encode_utf8 c ++ after) ≡ encode_utf8_all cs → ⊥
fails_not_all t [] [] after c fails all e = nonempty c after e
fails_not_all t [] (d ∷ cs) after c fails all e =
    let same = encode_same c d after (encode_utf8_all cs) e in
    true≢false (sym (and_parts _ _ all).0 ∙ sym (ap t same.0) ∙ fails)
fails_not_all t (f ∷ fs) [] after c fails all e =
    nonempty f (encode_utf8_all fs ++ (encode_utf8 c ++ after))
    (sym (append_assoc (encode_utf8 f) (encode_utf8_all fs) (encode_utf8 c ++ after)) ∙ e)
fails_not_all t (f ∷ fs) (d ∷ cs) after c fails all e =
    let same = encode_same f d _ _
    (sym (append_assoc (encode_utf8 f) (encode_utf8_all fs) (encode_utf8 c ++ after)) ∙ e) in
    fails_not_all t fs cs after c fails (and_parts _ _ all).1 same.1

-- the characters before the first refused one, that one, and what is after it
pub first_parts : (text : List ℕ) (c : ℕ) (r : IsFirstRefused text c)
    → text ≡ encode_utf8_all r.3.0 ++ (encode_utf8 c ++ r.4.0)
first_parts text c r =
    r.2 ∙ ap (λ (z : List ℕ). z ++ r.1) r.3.2 ∙ ap (λ (z : List ℕ). encode_utf8_all r.3.0 ++ z) r.4.1.parts

pub refused_is_no_name : (text : List ℕ) (c : ℕ) → IsFirstRefused text c → IsTargetName text → ⊥
refused_is_no_name text c r w =
    fails_not_all is_target_char r.3.0 w.0 r.4.0 c r.5 w.3 (sym (first_parts text c r) ∙ w.2)

-- ---- the message

-- whether `contains` finds a `(`
abbrev Contains : List ℕ → Bool → Type 0
Contains text r = MatchBool r (HasMatch (FindsChar 0x28) text) (FindsChar 0x28 text None)

contained : (text : List ℕ) (r : Bool) → Contains text r → r ≡ list_any (λ c. c == 0x28) text
contained text r m =
    let here = contains_char 0x28 text r m (omega arith) in
    or_is (list_any (λ c. c == 0x28)) (λ c. c == 0x28) refl (λ x xs. refl) text 0 r
    (λ held. let k = here.0 held in (k.0, k.1, eq-eqb _ _ k.2))
    (λ none i below. false_from_ne_true (get_or text i 0 == 0x28)
    (λ e. true≢false (sym (here.1 i below (eqb-true _ _ e)) ∙ none)))

pub parenthesis_message : (text : List ℕ) (r : Bool) → Contains text r → r ≡ true → (message : List ℕ)
    → message ≡ codes "unexpected `(` character, cfg expressions must start with `cfg(`" → IsTargetMessage text message
parenthesis_message text r m held message is = inl (sym (contained text r m) ∙ held, is)

pub character_message : (text : List ℕ) (r : Bool) (c : ℕ) → Contains text r → r ≡ false → IsFirstRefused text c
    → (message : List ℕ) → message ≡ codes "unexpected character " ++ (encode_utf8 c ++ codes " in target name")
    → IsTargetMessage text message
character_message text r c m none first message is = inr (sym (contained text r m) ∙ none, (c, first, is))

-- ---- a text that is refused with a message is no target name

pub message_is_no_name : (text message : List ℕ) → IsTargetMessage text message → IsTargetName text → ⊥
message_is_no_name text message (inl m) w =
    let k = Any-from_list_any (λ c. c == 0x28) text m.0 in
    no_parenthesis text k.0 k.2 (get_or_default text k.0 0 k.1 k.2 ∙ k.3 ∙ eqb-true k.1 0x28 k.4) w
message_is_no_name text message (inr m) w = refused_is_no_name text m.1.0 m.1.1 w

-- ---- the span

-- the character is here, and nowhere before
abbrev StandsFirst : List ℕ → ℕ → Range ℕ → Type 0
StandsFirst text c span =
    NoCharPasses (λ d. d == c) (take span.start text)
    × (drop span.start text ≡ encode_utf8 c ++ drop span.end text) × (span.start ≤ length text)

stands_first : (text : List ℕ) (c i j : ℕ) → FindsChar c text (Some (i, j)) → IsCharBoundary text i
    → StandsFirst text c (from_to i (i + len_utf8 c))
stands_first text c i j f b = (f.0, f.1.split ∙ ap (λ k. encode_utf8 c ++ drop k text) f.1.ends, b.0)

none_all : (p : ℕ → Bool) (cs : List ℕ) → NonePass p cs → IsTrue (list_all (λ d. not (p d)) cs)
none_all p [] h = refl
none_all p (c ∷ cs) h = and_from _ _ (ap not h.0) (none_all p cs h.1)

-- the first refused character is found
pub refused_is_found : (text : List ℕ) (c : ℕ) → IsFirstRefused text c → FindsChar c text None → ⊥
refused_is_found text c r none =
    fails_not_all (λ d. not (d == c)) r.3.0 none.0 r.4.0 c (ap not (eq-eqb c c refl))
    (none_all (λ d. d == c) none.0 none.2) (sym (first_parts text c r) ∙ sym none.1)

-- characters before the first one that is c
one_front : (c : ℕ) (fs gs after others : List ℕ) → IsTrue (list_all (λ d. not (d == c)) fs)
    → IsTrue (list_all (λ d. not (d == c)) gs)
    → encode_utf8_all fs ++ (encode_utf8 c ++ after) ≡ encode_utf8_all gs ++ (encode_utf8 c ++ others)
    → encode_utf8_all fs ≡ encode_utf8_all gs
one_front c [] [] after others p q e = refl
one_front c [] (g ∷ gs) after others p q e =
    let around = append_assoc (encode_utf8 g) (encode_utf8_all gs) (encode_utf8 c ++ others) in
    let same = encode_same c g after _ (e ∙ around) in
    absurd (true≢false (sym (and_parts _ _ q).0 ∙ ap not (eq-eqb g c (sym same.0))))
one_front c (f ∷ fs) [] after others p q e =
    let same = encode_same c f others _
    (sym e ∙ append_assoc (encode_utf8 f) (encode_utf8_all fs) (encode_utf8 c ++ after)) in
    absurd (true≢false (sym (and_parts _ _ p).0 ∙ ap not (eq-eqb f c (sym same.0))))
one_front c (f ∷ fs) (g ∷ gs) after others p q e =
    let same = encode_same f g _ _
    (sym (append_assoc (encode_utf8 f) (encode_utf8_all fs) (encode_utf8 c ++ after)) ∙ e
    ∙ append_assoc (encode_utf8 g) (encode_utf8_all gs) (encode_utf8 c ++ others)) in
    let rest = one_front c fs gs after others (and_parts _ _ p).1 (and_parts _ _ q).1 same.1 in
    λ i. encode_utf8 (same.0 i) ++ rest i

start_within : (text : List ℕ) (c : ℕ) (s : Range ℕ) → StandsFirst text c s → s.start ≤ length text
start_within text c s h = h.2

start_is : (text : List ℕ) (c : ℕ) (s : Range ℕ) (h : StandsFirst text c s)
    → length (encode_utf8_all h.0.0) ≡ s.start
start_is text c s h =
    omega (arith, ap length h.0.1, length-take s.start text, start_within text c s h)

text_is : (text : List ℕ) (c : ℕ) (s : Range ℕ) (h : StandsFirst text c s)
    → encode_utf8_all h.0.0 ++ (encode_utf8 c ++ drop s.end text) ≡ text
text_is text c s h = (λ i. h.0.1 i ++ sym h.1 i) ∙ take-append-drop s.start text

-- what passes a test is no character that fails it
apart : (t : ℕ → Bool) (c : ℕ) (cs : List ℕ) → IsFalse (t c) → IsTrue (list_all t cs)
    → IsTrue (list_all (λ d. not (d == c)) cs)
apart t c [] fails all = refl
apart t c (d ∷ cs) fails all =
    let parts = and_parts _ _ all in
    and_from _ _
    (elim (d == c) as (λ b. (d == c) ≡ b → not b ≡ true) [
      | false ↦ λ _. refl
      | true ↦ λ is. absurd (true≢false (sym parts.0 ∙ ap t (eqb-true d c is) ∙ fails))
    ] refl)
    (apart t c cs fails parts.1)

-- the first refused character is where it is found
first_at : (text : List ℕ) (c i : ℕ) (first : IsFirstRefused text c) → MatchBeginsAt (FindsChar c) text i
    → i ≡ length first.0
first_at text c i first m =
    let s = stands_first text c i m.0 m.1 m.3 in
    let front = one_front c first.3.0 s.0.0 _ _ (apart is_target_char c first.3.0 first.5 first.3.3)
    (none_all (λ d. d == c) s.0.0 s.0.2)
    (sym (first_parts text c first) ∙ sym (text_is text c (from_to i (i + len_utf8 c)) s)) in
    sym (start_is text c (from_to i (i + len_utf8 c)) s) ∙ ap length (sym front) ∙ ap length (sym first.3.2)

-- two first refused characters that are the same are in one place
pub one_first_place : (text : List ℕ) (c d : ℕ) (p : IsFirstRefused text c) (q : IsFirstRefused text d) → c ≡ d
    → length p.0 ≡ length q.0
one_first_place text c d p q same =
    let front = one_front c p.3.0 q.3.0 _ _ (apart is_target_char c p.3.0 p.5 p.3.3)
    (apart is_target_char c q.3.0 p.5 q.3.3)
    (sym (first_parts text c p) ∙ first_parts text d q
    ∙ ap (λ z. encode_utf8_all q.3.0 ++ (encode_utf8 z ++ q.4.0)) (sym same)) in
    ap length p.3.2 ∙ ap length front ∙ ap length (sym q.3.2)

-- whether `starts_with` finds `cfg(`
abbrev StartsCfg : List ℕ → Bool → Type 0
StartsCfg text r =
    MatchBool r (HasPrefixMatch (FindsTextPrefix (codes "cfg(")) text) (FindsTextPrefix (codes "cfg(") text None)

pub end_span : (text : List ℕ) (r : Bool) → StartsCfg text r → r ≡ true
    → IsTargetSpan text (from_to (length text) (length text))
end_span text true m is = inl ((drop m.0 text, m.1.1), refl)
end_span text false m is = absurd (true≢false (sym is))

pub character_span : (text : List ℕ) (c i : ℕ) (r : Bool) → StartsCfg text r → r ≡ false → IsFirstRefused text c
    → MatchBeginsAt (FindsChar c) text i → IsTargetSpan text (from_to i (i + len_utf8 c))
character_span text c i true m is first found = absurd (true≢false is)
character_span text c i false m is first found =
    let at = first_at text c i first found in
    inr ((λ b. m b.0 b.1), (c, (first, λ k. from_to (at k) (at k + len_utf8 c))))
