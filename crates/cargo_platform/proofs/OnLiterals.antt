-- What a text that is written out spells, and with which fault it is refused: what is asked for here computes, so that
-- a caller answers it by `refl`.
use Rattle.std.proofs.Common.{◌≡◌, refl, sym, subst, ℕ, ◌+◌, Bool, true, false, not, ◌&&◌, if◌then◌else◌, List}
use Rattle.std.proofs.Common.{[], ◌∷◌}
use Rattle.std.proofs.Common.{◌++◌, Option, Some, None, codes, inl, inr, length, take, drop}
use Rattle.std.specs.Prelude.{◌==◌, IsFalse, bytes_eq}
use Rattle.std.proofs.lemmas.List.{take-append-drop}
use Rattle.std.specs.List.{last_or}
use Rattle.cargo_platform.specs.Chars.{is_identifier_start, is_identifier_rest, is_space, is_quote}
use Rattle.cargo_platform.specs.Tokens.{Lexeme, LeftParen, RightParen, Ident, Comma, Equals, String, Placed}
use Rattle.cargo_platform.specs.declared.tokens.TokenFaultKind.{TokenFaultKind}
use Rattle.cargo_platform.specs.Cut.{IsCut, lexemes, BeginsFault}
use Rattle.cargo_platform.specs.Cut.{Item, Lexical, Nothing, ComesBehind, is_token}
use Rattle.cargo_platform.specs.Trees.{CfgValue, Tree}
use Rattle.cargo_platform.specs.Spelling.{Grammar, IsTreeText, IsValueText, Spells, value_spelling}
use Rattle.cargo_platform.specs.WellFormed.{IsWellFormed}
use Rattle.cargo_platform.specs.Faults.{Fault, fault_of, IsRefused}
use Rattle.cargo_platform.specs.Walk.{State, Wanted, after, walk, is_whole}
use Rattle.cargo_platform.proofs.CutTests.{is_cut_from, comes_by, cut_by}
use Rattle.cargo_platform.proofs.Paths.{next_before}
use Rattle.cargo_platform.proofs.Prefixes.{goes_on, refused_walked}
use Rattle.cargo_platform.proofs.PrintedSpells.{canonical, canonical_spells}

-- ---- the tokens of a text, with the place of its tail

-- what is being read, and where it began
pub data Mode : Type 0 where
  Between : Mode
  InName : (raw : Bool) (start : ℕ) (name : List ℕ) → Mode
  Marked : (start : ℕ) → Mode
  InString : (start : ℕ) (value : List ℕ) → Mode
  Stopped : (start : ℕ) → Mode

abbrev pub at : Lexeme → ℕ → ℕ → Placed
at t i j = record { token = t; start = i; end = j }

-- the token that a character is, if it is one, and what is being read after it
abbrev pub begin : ℕ → ℕ → List Placed × Mode
begin i c =
    if is_space c then ([], Between)
    else (if c == 0x28 then (at LeftParen i (i + 1) ∷ [], Between)
    else (if c == 0x29 then (at RightParen i (i + 1) ∷ [], Between)
    else (if c == 0x2C then (at Comma i (i + 1) ∷ [], Between)
    else (if c == 0x3D then (at Equals i (i + 1) ∷ [], Between)
    else (if is_quote c then ([], InString i [])
    else (if is_identifier_start c then ([], InName false i (c ∷ []))
    else ([], Stopped i)))))))

abbrev pub behind_name : Placed → List Placed × Mode → List Placed × Mode
behind_name t next = (t ∷ next.0, next.1)

abbrev pub step : Mode → ℕ → ℕ → List Placed × Mode
step Between j c = begin j c
step (InName raw i name) j c =
    if is_identifier_rest c then ([], InName raw i (name ++ c ∷ []))
    else (if not raw && bytes_eq name (codes "r") && c == 0x23 then ([], Marked i)
    else behind_name (at (Ident raw name) i j) (begin j c))
step (Marked i) j c = if is_identifier_start c then ([], InName true i (c ∷ [])) else ([], Stopped i)
step (InString i value) j c =
    if is_quote c then (at (String value) i (j + 1) ∷ [], Between) else ([], InString i (value ++ c ∷ []))
step (Stopped i) j c = ([], Stopped i)

abbrev pub finish : Mode → ℕ → List Placed × ℕ
finish Between j = ([], j)
finish (InName raw i name) j = (at (Ident raw name) i j ∷ [], j)
finish (Marked i) j = ([], i)
finish (InString i value) j = ([], i)
finish (Stopped i) j = ([], i)

abbrev pub scan : Mode → ℕ → List ℕ → List Placed × ℕ
scan mode j [] = finish mode j
scan mode j (c ∷ cs) =
    let now : List Placed × Mode = step mode j c in
    let more : List Placed × ℕ = scan now.1 (j + 1) cs in
    (now.0 ++ more.0, more.1)

abbrev pub tokens_in : List ℕ → List Placed
tokens_in text = (scan Between 0 text).0

-- the tokens are those of the text, of which nothing is left
abbrev pub is_cut_whole : List ℕ → Bool
is_cut_whole text = is_cut_from text 0 (tokens_in text) (length text)

nothing_left : (text : List ℕ) → drop (length text) text ≡ []
nothing_left [] = refl
nothing_left (c ∷ cs) = nothing_left cs

pub cut_whole : (text : List ℕ) → is_cut_whole text ≡ true → IsCut text (tokens_in text) (length text)
cut_whole text h = cut_by text (tokens_in text) (length text) h (inl (nothing_left text))

-- ---- what a text spells

-- The text spells the tree, whatever the spaces in it: its tokens are those of the printed tree.
pub tree_on_literal : (text : List ℕ) (e : Tree) → is_cut_whole text ≡ true → lexemes (tokens_in text) ≡ canonical e
    → IsWellFormed e → IsTreeText text e
tree_on_literal text e cut same formed =
    (tokens_in text, cut_whole text cut, subst (λ ts. Spells e ts) (sym same) (canonical_spells e formed))

-- The text spells the tree, by the spelling of its tokens: so it is with a comma after the last member.
pub spelling_on_literal : (text : List ℕ) (e : Tree) → is_cut_whole text ≡ true → Spells e (lexemes (tokens_in text))
    → IsTreeText text e
spelling_on_literal text e cut spelled = (tokens_in text, cut_whole text cut, spelled)

-- The text spells the name or the pair.
pub value_on_literal : (text : List ℕ) (c : CfgValue) → is_cut_whole text ≡ true
    → lexemes (tokens_in text) ≡ value_spelling c
    → IsValueText text c
value_on_literal text c cut spelled = (tokens_in text, cut_whole text cut, spelled)

-- ---- with which fault a text is refused

abbrev pub one_more : Option State → ℕ
one_more None = 0
one_more (Some s) = 1

-- how many tokens fit, one after another
abbrev pub fitting : Grammar → Option State → List Placed → ℕ
fitting g None ts = 0
fitting g (Some s) [] = 0
fitting g (Some s) (t ∷ ts) =
    let next : Option State = after g s t.token in
    one_more next + fitting g next ts

abbrev pub prefix_in : Grammar → List ℕ → List Placed
prefix_in g text = take (fitting g (Some (Wanted [])) (tokens_in text)) (tokens_in text)

abbrev pub behind_in : Grammar → List ℕ → List Placed
behind_in g text = drop (fitting g (Some (Wanted [])) (tokens_in text)) (tokens_in text)

-- the fault by the table, where the prefix leads to this state and does not go on
abbrev pub fault_at : Grammar → List ℕ → Item → Option State → Option State → Option Fault
fault_at g text last (Some s) None =
    let next : Item = next_before last (behind_in g text) in
    fault_of g text (is_whole s) (last_or None (lexemes (prefix_in g text))) next
fault_at g text last s t = None

abbrev pub further : Grammar → Option State → List Placed → Option State
further g None ts = None
further g (Some s) ts = goes_on g s ts

abbrev pub fault_before : Grammar → List ℕ → Item → Option Fault
fault_before g text last =
    let reached : Option State = walk g (lexemes (prefix_in g text)) in
    fault_at g text last reached (further g reached (behind_in g text))

-- the fault of a text whose characters all belong to a token or are spaces
abbrev pub fault_found : Grammar → List ℕ → Option Fault
fault_found g text = fault_before g text Nothing

refused_there : (g : Grammar) (text : List ℕ) (fault : Fault) (tail : ℕ) (last : Item) (s t : Option State)
    → walk g (lexemes (prefix_in g text)) ≡ s → further g s (behind_in g text) ≡ t → IsFalse (is_token last)
    → ComesBehind text 0 (tokens_in text) last tail → fault_at g text last s t ≡ Some fault → IsRefused g text fault
refused_there g text fault tail last None t walked stops none comes found = absurd cc
refused_there g text fault tail last (Some s) (Some t) walked stops none comes found = absurd cc
refused_there g text fault tail last (Some s) None walked stops none comes found =
    refused_walked g text (prefix_in g text) (behind_in g text) last tail s fault none
    (rw (take-append-drop (fitting g (Some (Wanted [])) (tokens_in text)) (tokens_in text)) comes) walked stops found

-- The text is refused with this fault, where each of its characters belongs to a token or is a space.
pub refused_on_literal : {g : Grammar} (text : List ℕ) (fault : Fault) → is_cut_whole text ≡ true
    → fault_found g text ≡ Some fault → IsRefused g text fault
refused_on_literal {g} text fault cut found =
    refused_there g text fault (length text) Nothing _ _ refl refl refl
    (comes_by text (tokens_in text) (length text) cut (inl (nothing_left text))) found

-- ---- a text with a lexical fault

-- where the tail begins, in which no token does
abbrev pub tail_in : List ℕ → ℕ
tail_in text = (scan Between 0 text).1

abbrev pub broken_in : List ℕ → TokenFaultKind → Item
broken_in text kind = Lexical kind (tail_in text)

-- the tokens are those of the text before its tail
abbrev pub is_cut_to_tail : List ℕ → Bool
is_cut_to_tail text = is_cut_from text 0 (tokens_in text) (tail_in text)

-- The text is refused with this fault, where its tail begins the lexical one.
pub refused_on_broken_literal : {g : Grammar} (text : List ℕ) (kind : TokenFaultKind) (fault : Fault)
    → is_cut_to_tail text ≡ true → BeginsFault (drop (tail_in text) text) kind
    → fault_before g text (broken_in text kind) ≡ Some fault → IsRefused g text fault
refused_on_broken_literal {g} text kind fault cut begins found =
    refused_there g text fault (tail_in text) (broken_in text kind) _ _ refl refl refl
    (comes_by text (tokens_in text) (tail_in text) cut (inr (kind, begins))) found
