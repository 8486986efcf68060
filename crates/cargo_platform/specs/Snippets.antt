-- Two lines that show where a text is refused: the text, and carets under the span with the printed fault after them.
use Rattle.std.specs.Prelude.{◌≡◌, ℕ, ◌+◌, ◌-◌, min, max, Bool, true, false, ◌||◌, ◌==◌, nat_le, nat_lt, List, ◌++◌}
use Rattle.std.specs.Prelude.{if◌then◌else◌, map, length, take, drop, codes, Option, None, Some, slice_range}
use Rattle.std.specs.Prelude.{encode_utf8_all, string_bytes, String}
use Rattle.std.specs.List.{repeat}
use Rattle.std.specs.Str.{chars}
use Rattle.std.specs.declared.alloc.Global.{Global}
use Rattle.std.specs.declared.ops.Range.{Range}
use Rattle.unicode.specs.GeneralCategory.{general_category}
use Rattle.unicode.specs.declared.properties.GeneralCategory.{GeneralCategory}
use Rattle.unicode.specs.declared.properties.GeneralCategory.TheVariants as category
use Rattle.cargo_platform.specs.Faults.{Fault, UnexpectedChar, UnterminatedExpression, InvalidTarget}
use Rattle.cargo_platform.specs.FaultLaws.{IsSpanIn}
use Rattle.cargo_platform.specs.Print.{print_fault}

-- Mn, Mc and Me
abbrev pub is_mark_category : GeneralCategory → Bool
is_mark_category category.NonspacingMark = true
is_mark_category category.SpacingMark = true
is_mark_category category.EnclosingMark = true
is_mark_category _ = false

-- Zs, Zl and Zp
abbrev pub is_separator_category : GeneralCategory → Bool
is_separator_category category.SpaceSeparator = true
is_separator_category category.LineSeparator = true
is_separator_category category.ParagraphSeparator = true
is_separator_category _ = false

-- Cc and Cf
abbrev pub is_control_category : GeneralCategory → Bool
is_control_category category.Control = true
is_control_category category.Format = true
is_control_category _ = false

-- Cs, Co and Cn
abbrev pub is_other_category : GeneralCategory → Bool
is_other_category category.Surrogate = true
is_other_category category.PrivateUse = true
is_other_category category.Unassigned = true
is_other_category _ = false

-- neither a letter, a number, a punctuation mark nor a symbol
abbrev pub is_hidden_category : GeneralCategory → Bool
is_hidden_category g =
    is_mark_category g || is_separator_category g || is_control_category g || is_other_category g

-- the character that is shown for a character
abbrev pub shown : ℕ → ℕ
shown c = if c == 0x20 then c else (if is_hidden_category (general_category c) then 0xFFFD else c)

-- The indexes of the characters that are shown, by the size of the text and how many characters are before the span and
-- in it: all of at most 100; of more, up to 40 before the span, the first 40 of a longer span, and 100 in all
-- otherwise.
abbrev pub first_shown : ℕ → ℕ → ℕ
first_shown size before = if nat_le size 100 then 0 else before - 40

abbrev pub end_shown : ℕ → ℕ → ℕ → ℕ
end_shown size before inside =
    if nat_le size 100 then size
    else (if nat_lt 40 inside then min size (before + 40) else min size (before - 40 + 100))

-- `..` if something is cut
abbrev pub dots : Bool → List ℕ
dots is_cut = if is_cut then codes ".." else codes ""

-- the characters from one index up to another, as they are shown
abbrev pub shown_part : List ℕ → ℕ → ℕ → List ℕ
shown_part cs first end =
    dots (nat_lt 0 first) ++ (encode_utf8_all (map shown (take (end - first) (drop first cs)))
    ++ dots (nat_lt end (length cs)))

abbrev pub shown_line : List ℕ → ℕ → ℕ → List ℕ
shown_line cs before inside = shown_part cs (first_shown (length cs) before) (end_shown (length cs) before inside)

-- two spaces under `..`
abbrev pub margin : Bool → List ℕ
margin is_cut = if is_cut then codes "  " else codes ""

-- the number of carets: one for each character of the span that is shown, and at least one
abbrev pub caret_count : ℕ → ℕ → ℕ → ℕ
caret_count size before inside = max 1 (min inside (end_shown size before inside - before))

-- spaces up to the span, and a caret for each character of it that is shown, at least one
abbrev pub carets : ℕ → ℕ → ℕ → List ℕ
carets size before inside =
    margin (nat_lt 0 (first_shown size before)) ++ (repeat (before - first_shown size before) (codes " ")
    ++ repeat (caret_count size before inside) (codes "^"))

-- the fault with the user's text in it as it is shown, in the form of a line that has no span
abbrev pub shown_fault : Fault → Fault
shown_fault (UnexpectedChar c) = UnexpectedChar (shown c)
shown_fault (UnterminatedExpression rest) = UnterminatedExpression (shown_line (chars rest) 0 0)
shown_fault (InvalidTarget message) = InvalidTarget (shown_line (chars message) 0 0)
shown_fault fault = fault

-- the two lines of a text with this many characters before the span and in it
abbrev pub lines_by : List ℕ → ℕ → ℕ → Fault → List ℕ
lines_by text before inside fault =
    shown_line (chars text) before inside ++ (codes "\n" ++ (carets (length (chars text)) before inside
    ++ (codes " " ++ print_fault (shown_fault fault))))

-- the two lines
abbrev pub lines : List ℕ → Range ℕ → Fault → List ℕ
lines text span fault =
    lines_by text (length (chars (slice_range text 0 span.start)))
    (length (chars (slice_range text span.start span.end))) fault

-- the snippet of a text, by the place of the fault in it; without a span there is none
abbrev pub IsSnippet : List ℕ → Option (Range ℕ) → Fault → Option (String Global) → Type 0
IsSnippet text None fault snippet = snippet ≡ None
IsSnippet text (Some span) fault snippet = IsSpanIn text span
    → (s : String Global) × (snippet ≡ Some s) × (string_bytes s ≡ lines text span fault)
