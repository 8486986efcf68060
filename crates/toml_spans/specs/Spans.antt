-- Spans of a text.
use Rattle.std.specs.Prelude.{◌≤◌, ℕ, List, slice_range}
use Rattle.std.specs.Str.{IsCharBoundary}
use Rattle.toml_spans.specs.declared.spans.Span.{Span}

-- the span is in the text: it does not end before it begins, and both ends are character boundaries
pub record LiesIn (text : List ℕ) (span : Span) : Type 0 where
  pub ordered : span.start ≤ span.end
  pub start : IsCharBoundary text span.start
  pub end : IsCharBoundary text span.end

-- the text of a span
abbrev pub at_span : List ℕ → Span → List ℕ
at_span text span = slice_range text span.start span.end

-- the first span is within the second
abbrev pub IsWithin : Span → Span → Type 0
IsWithin span outer = (outer.start ≤ span.start) × (span.end ≤ outer.end)
