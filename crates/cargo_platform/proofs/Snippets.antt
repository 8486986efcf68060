-- The lines of a snippet, from their parts.
use Rattle.std.proofs.Common.{◌≡◌, ◌∙◌, sym, ap, ℕ, ◌+◌, ◌-◌, List, ◌++◌, append_assoc, length, codes, take, drop, map}
use Rattle.std.proofs.Common.{encode_utf8, encode_utf8_all, rules, arith, min, max, refl, Bool, true, false, [], ◌∷◌}
use Rattle.std.proofs.Common.{◌≤◌, ◌<◌, ◌==◌, ◌&&◌, if◌then◌else◌, chars, lit<, eqb-true}
use Rattle.std.specs.Prelude.{nat_le, nat_lt}
use Rattle.std.specs.List.{repeat, list_all}
use Rattle.std.specs.Str.{IsAscii}
use Rattle.std.proofs.Math.Seq.{take-length}
use Rattle.std.proofs.lemmas.Bool.{agree_below_at, and_parts, leb-true, le-leb, le-ltb}
use Rattle.std.proofs.lemmas.List.{append-nil}
use Rattle.std.proofs.lemmas.Str.{chars-IsAscii, encode_ascii}
use Rattle.std.proofs.lemmas.Str.Ascii.{IsAscii-cons}
use Rattle.ucd_table.specs.Rows.{in_ranges, value_in}
use Rattle.ucd_category.specs.GeneralCategoryRows.{general_category_rows}
use Rattle.unicode.specs.GeneralCategory.{general_category}
use Rattle.cargo_platform.specs.Snippets.{shown, first_shown, end_shown, dots, shown_part, shown_line, margin}
use Rattle.cargo_platform.specs.Snippets.{caret_count, carets}

-- What is shown of a text with a span after this many characters, of its whole size, and of it up to 101 after them.
same_first : (before size : ℕ) → first_shown (min (before + 101) size) before ≡ first_shown size before
same_first before size = search (rules, arith)

same_end : (before inside size : ℕ)
    → end_shown (min (before + 101) size) before inside ≡ end_shown size before inside
same_end before inside size = search (rules, arith)

same_cut : (before inside size : ℕ)
    → nat_lt (end_shown size before inside) (min (before + 101) size) ≡ nat_lt (end_shown size before inside) size
same_cut before inside size = search (rules, arith)

same_count : (before inside size : ℕ)
    → caret_count (min (before + 101) size) before inside ≡ caret_count size before inside
same_count before inside size = ap (λ z. max 1 (min inside (z - before))) (same_end before inside size)

pub same_part : (cs : List ℕ) (before inside size first end n : ℕ) (l p r : List ℕ)
    → size ≡ min (before + 101) (length cs) → first ≡ first_shown size before → end ≡ end_shown size before inside
    → n ≡ end - first → l ≡ dots (nat_lt 0 first) → r ≡ dots (nat_lt end size)
    → p ≡ encode_utf8_all (map shown (take n (drop first cs))) → l ++ (p ++ r) ≡ shown_line cs before inside
same_part cs before inside size first end n l p r size_is first_is end_is n_is l_is r_is p_is =
    let f : first ≡ first_shown (length cs) before =
    first_is ∙ ap (λ z. first_shown z before) size_is ∙ same_first before (length cs) in
    let e : end ≡ end_shown (length cs) before inside =
    end_is ∙ ap (λ z. end_shown z before inside) size_is ∙ same_end before inside (length cs) in
    let left : l ≡ dots (nat_lt 0 (first_shown (length cs) before)) = l_is ∙ ap (λ z. dots (nat_lt 0 z)) f in
    let right : r ≡ dots (nat_lt (end_shown (length cs) before inside) (length cs)) =
    r_is ∙ (λ j. dots (nat_lt (e j) (size_is j))) ∙ ap dots (same_cut before inside (length cs)) in
    let many : n ≡ end_shown (length cs) before inside - first_shown (length cs) before = n_is ∙ (λ j. e j - f j) in
    let part = p_is ∙ (λ j. encode_utf8_all (map shown (take (many j) (drop (f j) cs)))) in
    λ i. left i ++ (part i ++ right i)

pub same_carets : (cs : List ℕ) (before inside size first n k : ℕ) (m s c t : List ℕ)
    → size ≡ min (before + 101) (length cs) → first ≡ first_shown size before → n ≡ before - first
    → k ≡ caret_count size before inside → m ≡ margin (nat_lt 0 first) → s ≡ repeat n (codes " ")
    → c ≡ repeat k (codes "^") → m ++ (s ++ (c ++ t)) ≡ carets (length cs) before inside ++ t
same_carets cs before inside size first n k m s c t size_is first_is n_is k_is m_is s_is c_is =
    let f : first ≡ first_shown (length cs) before =
    first_is ∙ ap (λ z. first_shown z before) size_is ∙ same_first before (length cs) in
    let left : m ≡ margin (nat_lt 0 (first_shown (length cs) before)) = m_is ∙ ap (λ z. margin (nat_lt 0 z)) f in
    let spaces = s_is ∙ (λ i. repeat ((n_is ∙ (λ j. before - f j)) i) (codes " ")) in
    let many = k_is ∙ (λ j. caret_count (size_is j) before inside) ∙ same_count before inside (length cs) in
    let marks = c_is ∙ (λ i. repeat (many i) (codes "^")) in
    ap (λ (z : List ℕ). m ++ z) (sym (append_assoc s c t)) ∙ sym (append_assoc m (s ++ c) t)
    ∙ (λ i. (left i ++ (spaces i ++ marks i)) ++ t)

-- ---- short texts of printable ASCII

abbrev pub is_printable_ascii : ℕ → Bool
is_printable_ascii c = nat_le 0x20 c && nat_le c 0x7E

printable_is_ascii : (c : ℕ) → is_printable_ascii c ≡ true → c < 127
printable_is_ascii c h = grind (arith, h, and_parts, leb-true)

-- in each of the 127 rows
printable_is_shown : (c : ℕ) → c < 127 → (is_printable_ascii c && (shown c == c)) ≡ is_printable_ascii c
unfolding general_category in_ranges value_in general_category_rows
printable_is_shown c small =
    agree_below_at (λ d. is_printable_ascii d && (shown d == d)) is_printable_ascii 127 c refl small

shown_itself : (c : ℕ) → is_printable_ascii c ≡ true → shown c ≡ c
shown_itself c h =
    let both = printable_is_shown c (printable_is_ascii c h) ∙ h in
    eqb-true (shown c) c (and_parts (is_printable_ascii c) (shown c == c) both).1

all_ascii : (text : List ℕ) → list_all is_printable_ascii text ≡ true → IsAscii text
all_ascii [] h = λ i. lit< tt
all_ascii (c ∷ text) h =
    let parts = and_parts (is_printable_ascii c) (list_all is_printable_ascii text) h in
    IsAscii-cons c text (omega (arith, printable_is_ascii c parts.0)) (all_ascii text parts.1)

all_shown : (text : List ℕ) → list_all is_printable_ascii text ≡ true → encode_utf8_all (map shown text) ≡ text
all_shown [] h = refl
all_shown (c ∷ text) h =
    let parts = and_parts (is_printable_ascii c) (list_all is_printable_ascii text) h in
    let same = shown_itself c parts.0 in
    ap (λ d. encode_utf8 d ++ encode_utf8_all (map shown text)) same
    ∙ ap (λ (z : List ℕ). z ++ encode_utf8_all (map shown text))
    (encode_ascii c (omega (arith, printable_is_ascii c parts.0)))
    ∙ ap (λ (z : List ℕ). c ∷ z) (all_shown text parts.1)

uncut : (cs : List ℕ) → length cs ≤ 100 → shown_line cs 0 0 ≡ encode_utf8_all (map shown cs)
uncut cs short =
    ap (λ b. shown_part cs (if b then 0 else 0) (if b then length cs else min (length cs) 100))
    (le-leb (length cs) 100 short)
    ∙ whole (length cs - 0) (nat_lt (length cs) (length cs)) (omega arith)
    (le-ltb (length cs) (length cs) (omega arith))
  where
    whole : (n : ℕ) (b : Bool) → n ≡ length cs → b ≡ false
        → encode_utf8_all (map shown (take n cs)) ++ dots b ≡ encode_utf8_all (map shown cs)
    whole n b all none =
        ap (λ d. encode_utf8_all (map shown (take n cs)) ++ dots d) none
        ∙ append-nil (encode_utf8_all (map shown (take n cs)))
        ∙ ap (λ m. encode_utf8_all (map shown (take m cs))) all
        ∙ ap (λ ds. encode_utf8_all (map shown ds)) (take-length cs)

-- such a text is shown as it is
pub shown_as_is : (text : List ℕ) → length text ≤ 100 → list_all is_printable_ascii text ≡ true
    → text ≡ shown_line (chars text) 0 0
shown_as_is text short plain =
    sym
    (ap (λ cs. shown_line cs 0 0) (chars-IsAscii text (all_ascii text plain)) ∙ uncut text short
    ∙ all_shown text plain)
