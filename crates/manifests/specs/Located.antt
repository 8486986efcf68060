-- Places of names and of their parts in a text.
use Rattle.std.specs.Prelude.{◌≡◌, ℕ, List}
use Rattle.toml_spans.specs.Spans.{LiesIn, at_span}
use Rattle.toml_spans.specs.Names.{Spells, SpellsBetween, quote_in}
use Rattle.toml_spans.specs.declared.spans.Span.{Span}
use Rattle.manifests.specs.declared.key_locations.Location.{Location}

-- the place is in the text, which spells the name there
abbrev pub IsAtName : List ℕ → List ℕ → Location → Type 0
IsAtName text name at = LiesIn text at.span × Spells (at_span text at.span) name

-- the place is in the text, which spells a part of the name there, between quotes that are those of some text
abbrev pub IsAtPart : List ℕ → List ℕ → Span → Location → Type 0
IsAtPart text name part at = LiesIn text at.span
    × ((whole : Span) × SpellsBetween (quote_in (at_span text whole)) (at_span text at.span) (at_span name part))
