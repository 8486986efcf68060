-- Texts in messages, and lists that are shortened.
use Rattle.std.specs.Prelude.{◌≡◌, ℕ, ◌-◌, nat_lt, List, [], ◌∷◌, ◌++◌, codes, cond, length, map, take}
use Rattle.std.specs.Prelude.{encode_utf8_all}
use Rattle.std.specs.Fmt.{decimal}
use Rattle.std.specs.List.{join_by}
use Rattle.std.specs.Str.{chars}
use Rattle.cargo_platform.specs.Snippets.{shown, shown_line}
use Rattle.manifest_lints_findings.specs.declared.wording.TheConstants.{MAX_SHOWN}

-- a text as it is displayed, as a whole, and shortened
abbrev pub shown_whole : List ℕ → List ℕ
shown_whole text = encode_utf8_all (map shown (chars text))

abbrev pub shown_cut : List ℕ → List ℕ
shown_cut text = shown_line (chars text) 0 0

-- a text in backquotes, as it is displayed, and shortened
abbrev pub quoted_text : List ℕ → List ℕ
quoted_text text = codes "`" ++ shown_cut text ++ codes "`"

-- two texts with a semicolon between them, or the only one that is not empty
abbrev pub both_texts : List ℕ → List ℕ → List ℕ
both_texts [] second = second
both_texts (c ∷ first) [] = c ∷ first
both_texts (c ∷ first) (d ∷ second) = (c ∷ first) ++ (codes "; " ++ (d ∷ second))

-- the message contains the text, followed by this rest
pub record StandsIn (text message rest : List ℕ) : Type 0 where
  pub words : List ℕ
  pub are : message ≡ words ++ (text ++ rest)

-- the message contains the texts, each after the one before it, with any words between them
abbrev pub Mentions : List (List ℕ) → List ℕ → Type 0
Mentions [] message = Unit {0}
Mentions (t ∷ ts) message = (rest : List ℕ) × StandsIn t message rest × Mentions ts rest

-- ---- lists that are shortened

-- the number of the others; empty if all are printed
abbrev pub and_more : ℕ → List ℕ
and_more all = cond (nat_lt MAX_SHOWN all) (codes " and " ++ (decimal (all - MAX_SHOWN) ++ codes " more")) []

-- the texts of the first ones with a separator between them, and the number of the others
abbrev pub joined_first : {X : Type 0} → (X → List ℕ) → List ℕ → List X → List ℕ
joined_first text mark xs = join_by text mark (take MAX_SHOWN xs) ++ and_more (length xs)
