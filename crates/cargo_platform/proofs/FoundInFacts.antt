-- The span of a refused line of facts is in the whole text.
use Rattle.std.proofs.Common.{◌≡◌, refl, ap, subst, ◌∙◌, ℕ, zero, suc, ◌-◌, ◌<◌, ◌⊎◌, List, [], ◌∷◌, ◌++◌, inl, inr}
use Rattle.std.proofs.Common.{length, sym, take, get_or, append_assoc, append-nil, arith, lit≤, Option, IsUtf8}
use Rattle.std.specs.declared.ops.Range.{Range}
use Rattle.cargo_platform.specs.declared.fact_lines.FactsError.{FactsError}
use Rattle.cargo_platform.specs.declared.fact_lines.FactsError.TheVariants.{Line, Memory}
use Rattle.cargo_platform.specs.Spelling.{Values}
use Rattle.cargo_platform.specs.Faults.{span_of}
use Rattle.cargo_platform.specs.FaultLaws.{IsSpanIn}
use Rattle.cargo_platform.specs.Errors.{orig_of, fault_in}
use Rattle.cargo_platform.specs.Lines.{line, lines_of, line_at, ended}
use Rattle.cargo_platform.specs.KeySpans.{further, IsSpanBy}
use Rattle.cargo_platform.specs.FactLines.{BeginsLine}
use Rattle.cargo_platform.specs.SpanLaws.{IsFoundInFacts}
use Rattle.cargo_platform.proofs.SomeCut.{ascii_sides}
use Rattle.cargo_platform.proofs.Spans.{placed_in}
use Rattle.cargo_platform.proofs.TextLines.{Parts, lines_are}
use Rattle.cargo_platform.proofs.FoundInKeys.{span_behind, found_by}

-- nothing, or a newline and more
abbrev EndsLine : List ℕ → Type 0
EndsLine back = (back ≡ []) ⊎ ((more : List ℕ) × (back ≡ 10 ∷ more))

-- what is around a line
abbrev Around : List ℕ → List (List ℕ) → List ℕ → Type 0
Around text before line = (back : List ℕ) × (text ≡ ended before ++ (line ++ back)) × EndsLine back

-- so it is with a line more before it
one_line_more : (text l : List ℕ) (rest : List ℕ) (before : List (List ℕ)) (it : List ℕ) → text ≡ line l ++ rest
    → Around rest before it → Around text (l ∷ before) it
one_line_more text l rest before it parts a =
    (a.0, parts ∙ ap (λ z. line l ++ z) a.1 ∙ sym (append_assoc (line l) (ended before) (it ++ a.0)), a.2)

around : (ls : List (List ℕ)) (text : List ℕ) (i : ℕ) → Parts text ls → i < length ls
    → Around text (take i ls) (get_or ls i [])
around [] text i parts below = absurd (omega (arith, below))
around (l ∷ ls) text zero (inl e) below =
    (10 ∷ ended ls, e ∙ append_assoc l (10 ∷ []) (ended ls), inr (ended ls, refl))
around (l ∷ ls) text zero (inr ([], last, is, some, e)) below =
    let same : l ≡ last = cc in
    ([], e ∙ sym same ∙ sym (append-nil l), inl refl)
around (l ∷ ls) text zero (inr (f ∷ front, last, is, some, e)) below =
    let same : f ≡ l = cc in (
      10 ∷ (ended front ++ last),
      e ∙ append_assoc (line f) (ended front) last ∙ append_assoc f (10 ∷ []) (ended front ++ last)
          ∙ ap (λ z. z ++ (10 ∷ (ended front ++ last))) same,
      inr (ended front ++ last, refl),
    )
around (l ∷ ls) text (suc i) (inl e) below =
    one_line_more text l (ended ls) (take i ls) (get_or ls i []) e
    (around ls (ended ls) i (inl refl) (omega (arith, below)))
around (l ∷ ls) text (suc i) (inr ([], last, is, some, e)) below =
    let none : ls ≡ [] = cc in
    absurd (omega (arith, below, ap length none))
around (l ∷ ls) text (suc i) (inr (f ∷ front, last, is, some, e)) below =
    let same : f ≡ l = cc in
    let others : ls ≡ front ++ last ∷ [] = cc in
    one_line_more text l (ended front ++ last) (take i ls) (get_or ls i [])
    (e ∙ append_assoc (line f) (ended front) last ∙ ap (λ z. line z ++ (ended front ++ last)) same)
    (around ls (ended front ++ last) i (inr (front, last, others, some, refl)) (omega (arith, below)))

-- what follows lines is a text of characters
utf8_behind : (ls : List (List ℕ)) (rest : List ℕ) → IsUtf8 (ended ls ++ rest) → IsUtf8 rest
utf8_behind [] rest u = u
utf8_behind (l ∷ ls) rest u =
    let parts : (line l ++ ended ls) ++ rest ≡ l ++ (10 ∷ (ended ls ++ rest)) =
    append_assoc (line l) (ended ls) rest ∙ append_assoc l (10 ∷ []) (ended ls ++ rest) in
    utf8_behind ls rest (ascii_sides 10 ((line l ++ ended ls) ++ rest) l (ended ls ++ rest) (lit≤ tt) u parts).1

-- a line is a text of characters
line_utf8 : (l back : List ℕ) → IsUtf8 (l ++ back) → EndsLine back → IsUtf8 l
line_utf8 l back u (inl none) =
    subst (λ (z : List ℕ). IsUtf8 z) (ap (λ z. l ++ z) none ∙ append-nil l) u
line_utf8 l back u (inr more) =
    (ascii_sides 10 (l ++ back) l more.0 (lit≤ tt) u (ap (λ z. l ++ z) more.1)).0

-- a line of a text of characters is one too, and so is the text from it on
utf8_around : (text : List ℕ) (before : List (List ℕ)) (l : List ℕ) → IsUtf8 text → (a : Around text before l)
    → IsUtf8 l × IsUtf8 (l ++ a.0)
utf8_around text before l utf8 a =
    let closed = utf8_behind before (l ++ a.0) (subst (λ (z : List ℕ). IsUtf8 z) a.1 utf8) in
    (line_utf8 l a.0 closed a.2, closed)

-- the span of a line is in the text in which the line is
span_of_line : (text : List ℕ) (before : List (List ℕ)) (l : List ℕ) (span : Range ℕ) → IsUtf8 text
    → Around text before l → IsSpanIn l span → IsSpanIn text (further (length (ended before)) span)
span_of_line text before l span utf8 a s =
    let both = utf8_around text before l utf8 a in
    span_behind text (ended before) l a.0 span a.1 both.0 both.1 s

pub found_in_facts : (text : List ℕ) (error : FactsError) (found : Option (Range ℕ)) → IsUtf8 text
    → IsFoundInFacts text error found
found_in_facts text (Memory e) found utf8 refused lies = absurd refused
found_in_facts text (Line number e) found utf8 refused lies =
    let before : List (List ℕ) = take (number - 1) (lines_of text) in
    let l = line_at (lines_of text) number in
    let counted = refused.0.numbered in
    let a : Around text before l = around (lines_of text) text (number - 1) (lines_are text).parts
    (omega (arith, counted.0, counted.1)) in
    let r = refused.2.0 in
    let span = span_of l r.accepted r.next in
    let within : IsSpanIn l span =
    placed_in Values l (fault_in e) span (utf8_around text before l utf8 a).0 (r, refl) in
    let Begins = BeginsLine text number (orig_of e) in
    found_by Begins text (orig_of e) span found (subst (λ (z : List ℕ). IsSpanIn z span) (sym refused.1) within)
    (length (ended before), (counted.0, counted.1, sym refused.1, refl))
    (λ place begins.
    subst (λ (z : ℕ). IsSpanIn text (further z span)) (sym begins.3) (span_of_line text before l span utf8 a within))
    (subst (λ (z : Option (Range ℕ)). IsSpanBy Begins (orig_of e) z found) refused.2.1 lies)
