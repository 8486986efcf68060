-- Where the lines of a text begin.
use Rattle.std.proofs.Common.{◌≡◌, ◌≢◌, ◌<◌, ◌≤◌, ◌+◌, ◌-◌, ◌∙◌, ℕ, List, [], ◌∷◌, ◌++◌, length, get_or, take, refl}
use Rattle.std.proofs.Common.{sym, ap, lit<, arith, append_assoc, length-append, Option, Some, None, Bor}
use Rattle.std.specs.Prelude.{◌==◌, not, slice_index_or}
use Rattle.std.specs.Option.{MatchOption}
use Rattle.std.specs.List.{AllByRecursion}
use Rattle.std.proofs.Math.Seq.{take-append_seam}
use Rattle.std.proofs.lemmas.Bool.{ne_eqb}
use Rattle.std.proofs.lemmas.Str.Pattern.{IsSplitOnceResult, split_parts}
use Rattle.cargo_platform.specs.Lines.{line, lines_of, IsUnbroken, ended}
use Rattle.cargo_platform.specs.FactLines.{BeginsLine}
use Rattle.cargo_platform.specs.Inside.LineStarts.{IsBehind, IsFirstLine, HoldsLine}
use Rattle.cargo_platform.proofs.Scanning.{all_each}
use Rattle.cargo_platform.proofs.TextLines.{first_line, last_line, ended_lines}

-- ---- a text parted at its first newline

unbroken : (text : List ℕ) → ((i : ℕ) → i < length text → get_or text i 0 ≢ 10) → IsUnbroken text
unbroken text none = all_each (λ b. not (b == 10)) text (λ i below. ap not (ne_eqb (get_or text i 0) 10 (none i below)))

-- the line before the newline and what is after it, or no newline
pub parts_at_end : (text : List ℕ) (r : Option (Bor (List ℕ) × Bor (List ℕ))) → IsSplitOnceResult 10 text r
    → MatchOption r (IsUnbroken text) (λ x. IsUnbroken x.0.now × (text ≡ line x.0.now ++ x.1.now))
parts_at_end text None h = unbroken text (split_parts 10 text None h (lit< tt))
parts_at_end text (Some x) h =
    let parts = split_parts 10 text (Some x) h (lit< tt) in
    (unbroken x.0.now parts.1, parts.0 ∙ sym (append_assoc x.0.now (10 ∷ []) x.1.now))

pub first_of_more : (text l behind : List ℕ) → IsUnbroken l → text ≡ line l ++ behind → IsFirstLine text l
first_of_more text l behind u is = (
  lines_of behind,
  ap lines_of is ∙ first_line l behind u,
  omega (arith, ap length is, length-append (line l) behind, length-append l (10 ∷ [])),
)

pub first_of_one : (text : List ℕ) → IsUnbroken text → text ≢ [] → IsFirstLine text text
first_of_one text u some = ([], last_line text u some, omega arith)

-- ---- after lines

all_and_one : (ls : List (List ℕ)) (l : List ℕ) → AllByRecursion IsUnbroken ls → IsUnbroken l
    → AllByRecursion IsUnbroken (ls ++ l ∷ [])
all_and_one [] l us u = (u, tt)
all_and_one (m ∷ ls) l us u = (us.0, all_and_one ls l us.1 u)

ended_and_one : (ls : List (List ℕ)) (l behind : List ℕ)
    → ended (ls ++ l ∷ []) ++ behind ≡ ended ls ++ (line l ++ behind)
ended_and_one [] l behind = append_assoc (line l) [] behind
ended_and_one (m ∷ ls) l behind =
    append_assoc (line m) (ended (ls ++ l ∷ [])) behind ∙ ap (λ z. line m ++ z) (ended_and_one ls l behind)
    ∙ sym (append_assoc (line m) (ended ls) (line l ++ behind))

pub one_further : (text rest l behind : List ℕ) (many : ℕ) → IsBehind text many rest → IsUnbroken l
    → rest ≡ line l ++ behind → IsBehind text (many + 1) behind
one_further text rest l behind many b u is = (
  b.0 ++ l ∷ [],
  all_and_one b.0 l b.1 u,
  b.2 ∙ ap (λ z. ended b.0 ++ z) is ∙ sym (ended_and_one b.0 l behind),
  omega (arith, length-append b.0 (l ∷ []), b.3),
)

lines_behind : (text rest : List ℕ) (many : ℕ) (b : IsBehind text many rest) → lines_of text ≡ b.0 ++ lines_of rest
lines_behind text rest many b = ap lines_of b.2 ∙ ended_lines b.0 rest b.1

at_most_one : (rest : List ℕ) → IsUnbroken rest → length (lines_of rest) ≤ 1
at_most_one [] u = omega arith
at_most_one (b ∷ bs) u =
    omega (arith, ap length (last_line (b ∷ bs) u (λ e. absurd cc)))

-- where no newline is left, there are no more lines but one
pub no_more : (text rest : List ℕ) (passed many : ℕ) → IsBehind text passed rest → IsUnbroken rest → passed < many
    → length (lines_of text) < many + 1
no_more text rest passed many b u more =
    omega (
      arith,
      ap length (lines_behind text rest passed b),
      length-append b.0 (lines_of rest),
      at_most_one rest u,
      b.3,
      more,
    )

-- after all lines there is none
pub none_left : (text rest line : List ℕ) (number many place : ℕ) → IsBehind text many rest → rest ≡ []
    → many + 1 ≡ number → BeginsLine text number line place → ⊥
none_left text rest line number many place b empty sum h =
    omega (
      arith,
      ap length (lines_behind text rest many b),
      length-append b.0 (lines_of rest),
      ap (λ z. length (lines_of z)) empty,
      b.3,
      sum,
      h.1,
    )

at_seam : (ls : List (List ℕ)) (l : List ℕ) (others : List (List ℕ))
    → slice_index_or (ls ++ l ∷ others) (length ls) [] ≡ l
at_seam [] l others = refl
at_seam (m ∷ ls) l others = at_seam ls l others

-- what is after lines begins with the next one
pub begins_next : (text rest first : List ℕ) (number many : ℕ) → IsBehind text many rest → IsFirstLine rest first
    → many + 1 ≡ number → HoldsLine text number first (length text - length rest)
begins_next text rest first number many b f sum =
    let lines : lines_of text ≡ b.0 ++ first ∷ f.0 = lines_behind text rest many b ∙ ap (λ z. b.0 ++ z) f.1 in
    let before : number - 1 ≡ length b.0 = omega (arith, b.3, sum) in
    let size = ap length b.2 ∙ length-append (ended b.0) rest in
    let place : length text - length rest ≡ length (ended b.0) = omega (arith, size) in
    let passed : take (number - 1) (lines_of text) ≡ b.0 =
    (λ i. take (before i) (lines i)) ∙ take-append_seam b.0 (first ∷ f.0) in (
      (
        omega (arith, sum),
        omega (arith, ap length lines, length-append b.0 (first ∷ f.0), b.3, sum),
        (λ i. slice_index_or (lines i) (before i) []) ∙ at_seam b.0 first f.0,
        place ∙ sym (ap (λ z. length (ended z)) passed),
      ),
      omega (arith, size, f.2),
    )

-- a line other than the next one is not there
pub is_other : (text rest first l : List ℕ) (number many : ℕ) → IsBehind text many rest → IsFirstLine rest first
    → many + 1 ≡ number → (first ≡ l → ⊥) → (place : ℕ) → BeginsLine text number l place → ⊥
is_other text rest first l number many b f sum differs place h =
    differs (sym (begins_next text rest first number many b f sum).0.2 ∙ h.2)
