-- From the bytes that a tokenizer saw to the words of the cut.
use Rattle.std.proofs.Common.{◌≡◌, ◌≢◌, ℕ, zero, suc, ◌+◌, ◌-◌, ◌<◌, ◌≤◌, Bool, true, false, not, ◌&&◌, List, [], ◌∷◌}
use Rattle.std.proofs.Common.{◌++◌, length, get_or, take, drop, refl, sym, ap, ◌∙◌, arith, add-one, codes, length-drop}
use Rattle.std.proofs.Common.{subst, true≢false, ltb}
use Rattle.std.specs.Prelude.{slice_index, slice_range, IsUtf8, bytes_eq, ◌==◌}
use Rattle.std.specs.List.{between, list_all}
use Rattle.std.proofs.lemmas.List.{get_or-drop}
use Rattle.std.proofs.lemmas.List.Edits.{between_none, between_more, length-between, get_or-between}
use Rattle.std.proofs.lemmas.Grind.{common_steps}
use Rattle.std.proofs.lemmas.Slice.Eq.{bytes_eq-Decides}
use Rattle.std.proofs.lemmas.Bool.{and_from, and_parts, false_from_ne_true, ltb-false, ltb-true, ne_eqb}
use Rattle.std.proofs.Math.Seq.{drop-cons}
use Rattle.cargo_platform.specs.declared.tokens.TokenFaultKind.TheVariants.{UnterminatedString}
use Rattle.cargo_platform.specs.Chars.{is_identifier_start, is_identifier_rest, is_space, is_quote}
use Rattle.cargo_platform.specs.Chars.{starts}
use Rattle.cargo_platform.specs.Tokens.{Ident, String, IsIdentifierName}
use Rattle.cargo_platform.specs.Cut.{AreSpaces, EndsBefore, BeginsFault}
use Rattle.cargo_platform.specs.Inside.Looking.{IsCharAt}
use Rattle.cargo_platform.specs.Inside.Scanning.{IsTokenAt}

-- ---- tests of the bytes between two places

pub all_each : (p : ℕ → Bool) (xs : List ℕ) → ((i : ℕ) → i < length xs → p (get_or xs i 0) ≡ true) →
    list_all p xs ≡ true
all_each p [] each = refl
all_each p (x ∷ xs) each =
    and_from (p x) (list_all p xs) (each 0 (omega arith)) (all_each p xs (λ i below. each (suc i) (omega arith)))

all_between : (p : ℕ → Bool) (text : List ℕ) (from to : ℕ) → to ≤ length text
    → ((i : ℕ) → from ≤ i → i < to → p (slice_index text i) ≡ true) → list_all p (slice_range text from to) ≡ true
all_between p text from to inside each = all_each p (slice_range text from to) (λ i below.
    let size : length (slice_range text from to) ≡ to - from = length-between text from to inside in
    ap p (get_or-between text from to i 0 (omega arith)) ∙ each (from + i) (omega arith) (omega arith))

all_from : (p : ℕ → Bool) (text : List ℕ) (from : ℕ)
    → ((i : ℕ) → from ≤ i → i < length text → p (slice_index text i) ≡ true) → list_all p (drop from text) ≡ true
all_from p text from each = all_each p (drop from text) (λ i below.
    ap p (get_or-drop from text i 0) ∙ each (from + i) (omega arith) (omega (arith, length-drop from text)))

-- at the end of the text `slice_index` gives 0, which passes none of the tests
pub starts_at : (p : ℕ → Bool) (text : List ℕ) (at : ℕ) → p (slice_index text at) ≡ false
    → starts p (drop at text) ≡ false
starts_at p [] zero h = refl
starts_at p [] (suc at) h = refl
starts_at p (x ∷ text) zero h = h
starts_at p (x ∷ text) (suc at) h = starts_at p text at h

pub first_between : (text : List ℕ) (from to : ℕ) → from < to → from < length text
    → slice_range text from to ≡ slice_index text from ∷ slice_range text (from + 1) to
first_between text from to below inside =
    let count : to - from ≡ suc (to - (from + 1)) = omega arith in
    rw count
    (rw (drop-cons text from 0)
    (ap (λ n. get_or text from 0 ∷ take (to - (from + 1)) (drop n text)) (sym (add-one from))))

no_quote : (b : ℕ) → b ≢ 0x22 → not (is_quote b) ≡ true
no_quote b h = ap not (ne_eqb b 0x22 h)

-- ---- spaces

pub no_spaces : (text : List ℕ) (at : ℕ) → at ≤ length text → AreSpaces text at at
no_spaces text at inside = ([], record { ordered = omega arith; inside = inside; bytes = between_none text at }, refl)

pub only_spaces : (text : List ℕ) (from to : ℕ) → from ≤ to → to ≤ length text
    → ((i : ℕ) → from ≤ i → i < to → slice_index text i ≡ 0x20) → AreSpaces text from to
only_spaces text from to ordered inside each = (
  slice_range text from to,
  record { ordered = ordered; inside = inside; bytes = refl },
  all_between is_space text from to inside (λ i above below. ap is_space (each i above below)),
)

pub rest_begins : (text : List ℕ) (at : ℕ) → at < length text → slice_index text at ≢ 0x20 →
    (b : ℕ) × (after : List ℕ) × (drop at text ≡ b ∷ after) × (is_space b ≡ false)
rest_begins text at within past = (
  slice_index text at,
  drop (at + 1) text,
  rw (add-one, drop-cons text at 0) refl,
  ne_eqb (slice_index text at) 0x20 past,
)

-- ---- tokens

pub string_stands : (text value : List ℕ) (start quote : ℕ) → slice_index text start ≡ 0x22
    → slice_index text quote ≡ 0x22 → start + 1 ≤ quote → quote < length text
    → value ≡ slice_range text (start + 1) quote → IsUtf8 value
    → ((i : ℕ) → start + 1 ≤ i → i < quote → slice_index text i ≢ 0x22)
    → IsTokenAt text (String value) start (quote + 1)
string_stands text value start quote opens closes ordered within is utf8 inside = record {
  forward = omega arith;
  written = (
    (
      utf8,
      ap (list_all (λ c. not (is_quote c))) is
          ∙ all_between (λ c. not (is_quote c)) text (start + 1) quote (omega arith)
          (λ i above below. no_quote (slice_index text i) (inside i above below)),
    ),
    record {
      ordered = omega arith;
      inside = omega arith;
      bytes =
          first_between text start (quote + 1) (omega arith) (omega arith)
          ∙ ap (λ x. x ∷ between (start + 1) (quote + 1) text) opens
          ∙ ap (λ l. 0x22 ∷ l)
          (between_more text (start + 1) quote 0 ordered within
          ∙ ap (λ x. between (start + 1) quote text ++ x ∷ []) closes ∙ ap (λ l. l ++ 0x22 ∷ []) (sym is));
    },
  );
  whole = tt;
}

start_is_rest : (b : ℕ) → is_identifier_start b ≡ true → is_identifier_rest b ≡ true
start_is_rest b h = grind (arith, common_steps)

-- a place where an identifier begins is not one where it ended
pub goes_past : (text : List ℕ) (at end : ℕ) → is_identifier_start (slice_index text at) ≡ true → at ≤ end →
    is_identifier_rest (slice_index text end) ≡ false → at < end
goes_past text at end begins ordered ends = go (ltb at end) refl
  where
    go : (t : Bool) → ltb at end ≡ t → at < end
    go true e = ltb-true at end e
    go false e =
        let is : at ≡ end = omega (arith, ltb-false at end e) in
        absurd (true≢false (sym (start_is_rest (slice_index text at) begins)
        ∙ ap (λ k. is_identifier_rest (slice_index text k)) is ∙ ends))

-- a name, from its first byte and the others
name_written : (text name : List ℕ) (from end : ℕ) → from < end → end ≤ length text → name ≡ slice_range text from end
    → is_identifier_start (slice_index text from) ≡ true
    → ((i : ℕ) → from + 1 ≤ i → i < end → is_identifier_rest (slice_index text i) ≡ true) → IsIdentifierName name
name_written text name from end ordered inside is start rest =
    subst IsIdentifierName (sym (is ∙ first_between text from end ordered (omega arith)))
    (start, all_between is_identifier_rest text (from + 1) end inside rest)

-- an identifier ends where no rest character follows; a lone unmarked `r` is not followed by `#`
name_ends : (text name : List ℕ) (raw : Bool) (end : ℕ) → is_identifier_rest (slice_index text end) ≡ false
    → (raw ≡ false → name ≡ codes "r" → slice_index text end ≢ 0x23) → EndsBefore (Ident raw name) (drop end text)
name_ends text name true end rest plain = (starts_at is_identifier_rest text end rest, refl)
name_ends text name false end rest plain = (
  starts_at is_identifier_rest text end rest,
  false_from_ne_true (bytes_eq name (codes "r") && starts (λ c. c == 0x23) (drop end text)) (λ both.
      let is : name ≡ codes "r" = (bytes_eq-Decides name (codes "r")).0
      (and_parts (bytes_eq name (codes "r")) (starts (λ c. c == 0x23) (drop end text)) both).0 in
      let sign = starts_at (λ c. c == 0x23) text end (ne_eqb (slice_index text end) 0x23 (plain refl is)) in
      true≢false (sym (and_parts (bytes_eq name (codes "r")) (starts (λ c. c == 0x23) (drop end text)) both).1 ∙ sign)),
)

pub plain_stands : (text name : List ℕ) (start end : ℕ) → is_identifier_start (slice_index text start) ≡ true
    → start + 1 ≤ end → end ≤ length text → name ≡ slice_range text start end
    → ((i : ℕ) → start + 1 ≤ i → i < end → is_identifier_rest (slice_index text i) ≡ true)
    → is_identifier_rest (slice_index text end) ≡ false
    → (slice_index text start ≡ 0x72 → slice_index text (start + 1) ≢ 0x23)
    → IsTokenAt text (Ident false name) start end
plain_stands text name start end begins ordered inside is rest ends plain =
    let size : length name ≡ end - start = ap length is ∙ length-between text start end inside in
    record {
      forward = omega arith;
      written = (
        name_written text name start end (omega arith) inside is begins rest,
        record { ordered = omega arith; inside = inside; bytes = sym is },
      );
      whole = name_ends text name false end ends (λ _ r sign.
          let short : end ≡ start + 1 = omega (arith, ap length r) in
          let first : slice_index text start ≡ 0x72 = head
          (sym (first_between text start end (omega arith) (omega arith)) ∙ sym is ∙ r) in
          plain first (ap (λ k. slice_index text k) (sym short) ∙ sign));
    }
  where
    head : {a b : ℕ} {s t : List ℕ} → a ∷ s ≡ b ∷ t → a ≡ b
    head h = cc

pub marked_stands : (text name : List ℕ) (start end : ℕ) → slice_index text start ≡ 0x72
    → slice_index text (start + 1) ≡ 0x23 → is_identifier_start (slice_index text (start + 2)) ≡ true → start + 3 ≤ end
    → end ≤ length text → name ≡ slice_range text (start + 2) end
    → ((i : ℕ) → start + 3 ≤ i → i < end → is_identifier_rest (slice_index text i) ≡ true)
    → is_identifier_rest (slice_index text end) ≡ false → IsTokenAt text (Ident true name) start end
marked_stands text name start end r sign begins ordered inside is rest ends = record {
  forward = omega arith;
  written = (
    name_written text name (start + 2) end (omega arith) inside is begins (λ i above below. rest i (omega arith) below),
    record {
      ordered = omega arith;
      inside = inside;
      bytes =
          first_between text start end (omega arith) (omega arith)
          ∙ ap (λ x. x ∷ between (start + 1) end text) r
          ∙ ap (λ l. 0x72 ∷ l)
          (first_between text (start + 1) end (omega arith) (omega arith)
          ∙ ap (λ x. x ∷ between (start + 1 + 1) end text) sign ∙ ap (λ n. 0x23 ∷ between n end text) (omega arith)
          ∙ ap (λ l. 0x23 ∷ l) (sym is));
    },
  );
  whole = name_ends text name true end ends (λ raw. absurd cc);
}

-- ---- faults

pub unterminated : (text : List ℕ) (start : ℕ) → IsCharAt text start 0x22
    → ((i : ℕ) → start + 1 ≤ i → slice_index text i ≢ 0x22) → BeginsFault (drop start text) UnterminatedString
unterminated text start opens none = (
  drop (start + 1) text,
  record { scalar = opens.scalar; parts = opens.bytes },
  all_from (λ c. not (is_quote c)) text (start + 1) (λ i above _. no_quote (slice_index text i) (none i above)),
)
