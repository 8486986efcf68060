-- How many parentheses are open, token after token.
use Rattle.std.proofs.Common.{◌≡◌, refl, sym, ap, subst, ◌∙◌, ℕ, ◌+◌, ◌-◌, ◌≤◌, ◌<◌, max, false, true≢false}
use Rattle.std.proofs.Common.{List, [], ◌∷◌, ◌++◌, take, length, append_assoc, arith, inl, inr, Option, Some, None}
use Rattle.std.proofs.Common.{Result, Ok, Err, zero, suc}
use Rattle.std.specs.Prelude.{codes, IsUtf8}
use Rattle.std.proofs.Math.Seq.{take-append-add}
use Rattle.std.proofs.lemmas.Bool.{cases_lt}
use Rattle.std.proofs.lemmas.List.{map-append, append-nil}
use Rattle.cargo_platform.specs.declared.tokens.Spanned.{Spanned}
use Rattle.cargo_platform.specs.declared.tokens.TokenFault.{TokenFault}
use Rattle.cargo_platform.specs.Tokens.{Lexeme, LeftParen, RightParen, Ident, Comma, Equals, String, Placed, placed}
use Rattle.cargo_platform.specs.Tokens.{lexeme, written}
use Rattle.cargo_platform.specs.Cut.{Item, Token, Nothing, Lexical, Comes, ComesBehind, lexemes, is_token}
use Rattle.cargo_platform.specs.Reading.{Progress, NextCall, Gives, given}
use Rattle.cargo_platform.specs.Trees.{Tree, Not, All, Any, Value, True, False, Trees, none, tree, Alone, KeyPair}
use Rattle.cargo_platform.specs.Spelling.{Spells, SpellMembers, group, IsTreeText}
use Rattle.cargo_platform.specs.Nesting.{open_after, open_behind, IsWithin, IsMostOpen, IsNesting, IsPassedAt}
use Rattle.cargo_platform.proofs.OneCut.{piece_end, one_cut_from}
use Rattle.cargo_platform.proofs.Paths.{next_before, first_left}
use Rattle.cargo_platform.proofs.SomeCut.{written_length, some_cut}
use Rattle.cargo_platform.specs.Nesting.{groups_down, groups_below, IsNestedWithin, IsNestedBeyond, IsDeepAsTree}

-- ---- the most that are open, as a function

-- the most parentheses that are open at once, where this many are open before the tokens
abbrev pub most_open : ℕ → List Lexeme → ℕ
most_open o [] = o
most_open o (t ∷ ts) = max o (most_open (open_after o t) ts)

pub behind_append : (o : ℕ) (ts us : List Lexeme)
    → open_behind o (ts ++ us) ≡ open_behind (open_behind o ts) us
behind_append o [] us = refl
behind_append o (t ∷ ts) us = behind_append (open_after o t) ts us

le_max : (a b c : ℕ) → a ≤ c → a ≤ max b c
le_max a b c h = omega (arith, h)

first_of_max : (a b : ℕ) → a ≤ max a b
first_of_max a b = omega arith

le_refl : (a : ℕ) → a ≤ a
le_refl a = omega arith

begins_most : (o : ℕ) (ts : List Lexeme) → o ≤ most_open o ts
begins_most o [] = omega arith
begins_most o (t ∷ ts) = first_of_max o (most_open (open_after o t) ts)

ends_most : (o : ℕ) (ts : List Lexeme) → open_behind o ts ≤ most_open o ts
ends_most o [] = le_refl o
ends_most o (t ∷ ts) =
    le_max (open_behind (open_after o t) ts) o (most_open (open_after o t) ts)
    (ends_most (open_after o t) ts)

max_on : (a b c d : ℕ) → b ≡ max c d → max a b ≡ max (max a c) d
max_on a b c d is = omega (arith, is)

max_within : (a b : ℕ) → a ≤ b → b ≡ max a b
max_within a b h = omega (arith, h)

pub most_append : (o : ℕ) (ts us : List Lexeme)
    → most_open o (ts ++ us) ≡ max (most_open o ts) (most_open (open_behind o ts) us)
most_append o [] us = max_within o (most_open o us) (begins_most o us)
most_append o (t ∷ ts) us =
    max_on o (most_open (open_after o t) (ts ++ us)) (most_open (open_after o t) ts)
    (most_open (open_behind (open_after o t) ts) us) (most_append (open_after o t) ts us)

within_most : (o : ℕ) (ts : List Lexeme) (k : ℕ) → open_behind o (take k ts) ≤ most_open o ts
within_most o [] zero = le_refl o
within_most o [] (suc k) = le_refl o
within_most o (t ∷ ts) zero = first_of_max o (most_open (open_after o t) ts)
within_most o (t ∷ ts) (suc k) =
    le_max (open_behind (open_after o t) (take k ts)) o (most_open (open_after o t) ts)
    (within_most (open_after o t) ts k)

max_above : (a b : ℕ) → a < b → b ≡ max a b
max_above a b h = omega (arith, h)

max_first : (a b : ℕ) → b ≤ a → a ≡ max a b
max_first a b h = omega (arith, h)

some_most : (o : ℕ) (ts : List Lexeme) → (k : ℕ) × (open_behind o (take k ts) ≡ most_open o ts)
some_most o [] = (0, refl)
some_most o (t ∷ ts) =
    let more = some_most (open_after o t) ts in
    elim (cases_lt o (most_open (open_after o t) ts)) [
      | inl h ↦ (suc more.0, more.1 ∙ max_above o (most_open (open_after o t) ts) h)
      | inr h ↦ (0, max_first o (most_open (open_after o t) ts) h)
    ]

-- the function tells how many are open at most
pub is_most_open : (ts : List Lexeme) → IsMostOpen ts (most_open 0 ts)
is_most_open ts = (within_most 0 ts, some_most 0 ts)

-- ---- tokens that were read

-- These tokens were read up to a place of the text, without a fault, and whatever comes from there on comes after
-- them. This many parentheses are open after them, and were at most.
pub record HasOpen (text : List ℕ) (p : Progress) (o most : ℕ) : Type 0 where
  pub same : p.text ≡ text
  pub going : p.failed ≡ false
  pub ts : List Placed
  pub open_is : open_behind 0 (lexemes ts) ≡ o
  pub most_is : most_open 0 (lexemes ts) ≡ most
  pub room : o ≤ p.place
  pub inside : p.place ≤ length text
  pub more : (us : List Placed) (last : Item) (to : ℕ) → ComesBehind text p.place us last to
      → ComesBehind text 0 (ts ++ us) last to

abbrev begun : List ℕ → Progress
begun text = record { text = text; place = 0; failed = false; looks = 0 }

pub none_open : (text : List ℕ) (p : Progress) → p ≡ begun text → HasOpen text p 0 0
none_open text p is = subst (λ q. HasOpen text q 0 0) (sym is) (record {
  same = refl;
  going = refl;
  ts = [];
  open_is = refl;
  most_is = refl;
  room = omega arith;
  inside = omega arith;
  more = λ us last to h. h;
})

-- what a call gave, where none has failed
gave : (p q : Progress) (r : Option (Result Spanned TokenFault)) → p.failed ≡ false → NextCall p r q
    → Gives p q (given r)
gave p q r going call = elim call.gives [
  | inl g ↦ g
  | inr g ↦ absurd (true≢false (sym g.0 ∙ going))
]

-- a token has a byte at least
token_goes_on : (text : List ℕ) (from to : ℕ) (t : Placed) → Comes text from (Token t) to → from + 1 ≤ to
token_goes_on text from to t c =
    let end = piece_end text t.start t.end (written t.token) c.1.1 in
    longer from t.start t.end to (length (written t.token)) c.0.1.ordered end (written_length t.token c.1.0) c.3
  where
    longer : (from start end to n : ℕ) → from ≤ start → end ≡ start + n → 0 < n → to ≡ end → from + 1 ≤ to
    longer from start end to n begins is some last = omega (arith, begins, is, some, last)

open_by_one : (o : ℕ) (t : Lexeme) → open_after o t ≤ o + 1
open_by_one o LeftParen = omega arith
open_by_one o RightParen = omega arith
open_by_one o (Ident raw name) = omega arith
open_by_one o Comma = omega arith
open_by_one o Equals = omega arith
open_by_one o (String value) = omega arith

most_step : (m most before o new after : ℕ) → before ≤ m → m ≡ most → new ≡ after
    → max m (max before new) ≡ max most after
most_step m most before o new after within is_most is = omega (arith, within, is_most, is)

room_on : (o after new from to : ℕ) → o ≤ from → new ≤ o + 1 → after ≡ new → from + 1 ≤ to → after ≤ to
room_on o after new from to room by is on = omega (arith, room, by, is, on)

within_text : (to end n : ℕ) → end ≤ n → to ≡ end → to ≤ n
within_text to end n inside is = omega (arith, inside, is)

pub one_open : (text : List ℕ) (p q : Progress) (s : Spanned) (o most after larger : ℕ) → HasOpen text p o most
    → NextCall p (Some (Ok s)) q → after ≡ open_after o (lexeme s.token) → larger ≡ max most after
    → HasOpen text q after larger
one_open text p q s o most after larger h call is most_after =
    let g = gave p q (Some (Ok s)) h.going call in
    let t = placed s in
    let comes = subst (λ z. Comes z p.place (Token t) q.place) h.same g.comes in
    let ls = map-append (λ (u : Placed). u.token) h.ts (t ∷ []) in
    record {
      same = g.same_text ∙ h.same;
      going = g.failed_is;
      ts = h.ts ++ t ∷ [];
      open_is =
          ap (open_behind 0) ls ∙ behind_append 0 (lexemes h.ts) (lexeme s.token ∷ [])
          ∙ ap (λ n. open_after n (lexeme s.token)) h.open_is ∙ sym is;
      most_is =
          ap (most_open 0) ls ∙ most_append 0 (lexemes h.ts) (lexeme s.token ∷ [])
          ∙ most_step _ most _ o _ after (ends_most 0 (lexemes h.ts)) h.most_is
          (ap (λ n. open_after n (lexeme s.token)) h.open_is ∙ sym is) ∙ sym most_after;
      room = room_on _ _ _ _ _ h.room (open_by_one o (lexeme s.token)) is (token_goes_on text p.place q.place t comes);
      inside = within_text q.place t.end (length text) comes.1.1.inside comes.3;
      more = λ us last to c.
          subst (λ (zs : List Placed). ComesBehind text 0 zs last to) (sym (append_assoc h.ts (t ∷ []) us))
          (h.more (t ∷ us) last to (
            (comes.0, comes.1, comes.2, refl),
            subst (λ z. ComesBehind text z us last to) comes.3 c,
          ));
    }

-- ---- what is answered

-- where no token comes any more, the most that were open are the nesting
ended : (text : List ℕ) (p q : Progress) (last : Item) (o most : ℕ) (h : HasOpen text p o most)
    → Gives p q last → ComesBehind text 0 h.ts last q.place
ended text p q last o most h g =
    subst (λ (zs : List Placed). ComesBehind text 0 zs last q.place) (append-nil h.ts)
    (h.more [] last q.place (subst (λ z. Comes z p.place last q.place) h.same g.comes))

nested : (text : List ℕ) (p q : Progress) (last : Item) (o most : ℕ) → HasOpen text p o most
    → is_token last ≡ false → Gives p q last → IsNesting text most
nested text p q last o most h ends g = (
  h.ts,
  q.place,
  record { last = last; no_token = ends; comes = ended text p q last o most h g },
  subst (IsMostOpen (lexemes h.ts)) h.most_is (is_most_open (lexemes h.ts)),
)

pub nested_at_end : (text : List ℕ) (p q : Progress) (o most : ℕ) → HasOpen text p o most → NextCall p None q
    → IsNesting text most
nested_at_end text p q o most h call = nested text p q Nothing o most h refl (gave p q None h.going call)

pub nested_at_fault : (text : List ℕ) (p q : Progress) (f : TokenFault) (o most : ℕ) → HasOpen text p o most
    → NextCall p (Some (Err f)) q → IsNesting text most
nested_at_fault text p q f o most h call =
    nested text p q (Lexical f.kind f.at) o most h refl (gave p q (Some (Err f)) h.going call)

-- only `(` opens one more
opens_paren : (o most : ℕ) (t : Lexeme) → o ≤ most → most < open_after o t
    → (t ≡ LeftParen) × (o ≡ most)
opens_paren o most LeftParen within beyond = (refl, omega (arith, within, beyond))
opens_paren o most RightParen within beyond = absurd (omega (arith, within, beyond))
opens_paren o most (Ident raw name) within beyond = absurd (omega (arith, within, beyond))
opens_paren o most Comma within beyond = absurd (omega (arith, within, beyond))
opens_paren o most Equals within beyond = absurd (omega (arith, within, beyond))
opens_paren o most (String value) within beyond = absurd (omega (arith, within, beyond))

under_most : (n m o deepest most : ℕ) → n ≤ m → n ≡ o → m ≡ deepest → deepest ≤ most → o ≤ most
under_most n m o deepest most under is_o is within = omega (arith, under, is_o, is, within)

pub passed : (text : List ℕ) (p q : Progress) (s : Spanned) (o deepest most after : ℕ)
    → HasOpen text p o deepest → deepest ≤ most → NextCall p (Some (Ok s)) q
    → after ≡ open_after o (lexeme s.token) → most < after → IsPassedAt text most s.start
passed text p q s o deepest most after h within call is beyond =
    let g = gave p q (Some (Ok s)) h.going call in
    let t = placed s in
    let to = subst (λ z. ComesBehind text 0 h.ts (Token t) z) g.comes.3 (ended text p q (Token t) o deepest h g) in
    let least = under_most (open_behind 0 (lexemes h.ts)) (most_open 0 (lexemes h.ts)) o deepest most
    (ends_most 0 (lexemes h.ts)) h.open_is h.most_is within in
    let opens = opens_paren o most (lexeme s.token) least (subst (λ n. most < n) is beyond) in
    record {
      before = h.ts;
      paren = t;
      comes = to;
      is_paren = opens.0;
      place = refl;
      within = λ k. under_most (open_behind 0 (take k (lexemes h.ts))) (most_open 0 (lexemes h.ts)) _ deepest most
          (within_most 0 (lexemes h.ts) k) refl h.most_is within;
      all_open = h.open_is ∙ opens.1;
    }

-- ---- no more than the bytes of a text

larger_of : (o n all : ℕ) → o ≤ all → n ≤ all → max o n ≤ all
larger_of o n all first second = omega (arith, first, second)

still_inside : (o from all : ℕ) → o ≤ from → from ≤ all → o ≤ all
still_inside o from all room inside = omega (arith, room, inside)

within_bytes : (text : List ℕ) (from o : ℕ) (ts : List Placed) (last : Item) (to : ℕ) → o ≤ from → from ≤ length text
    → ComesBehind text from ts last to → most_open o (lexemes ts) ≤ length text
within_bytes text from o [] last to room inside c = still_inside o from (length text) room inside
within_bytes text from o (t ∷ ts) last to room inside (c, cs) =
    larger_of o (most_open (open_after o t.token) (lexemes ts)) (length text)
    (still_inside o from (length text) room inside)
    (within_bytes text t.end (open_after o t.token) ts last to
    (room_on o _ _ from t.end room (open_by_one o t.token) refl (token_goes_on text from t.end t c)) c.1.1.inside cs)

-- a text with no more bytes than this many has no more open parentheses
pub nested_within_bytes : (text : List ℕ) (most : ℕ) → IsUtf8 text → length text ≤ most → IsNestedWithin text most
nested_within_bytes text most utf8 short =
    let (ts, tail, cut) = some_cut text utf8 in (
      most_open 0 (lexemes ts),
      (ts, tail, cut, is_most_open (lexemes ts)),
      still_inside _ _ most (within_bytes text 0 0 ts cut.last tail (omega arith) (omega arith) cut.comes) short,
    )

-- ---- the nesting of a tree

-- from these tokens on as many are open as before them, and at most this many more
record Lies (o : ℕ) (ts : List Lexeme) (groups : ℕ) : Type 0 where
  closed : open_behind o ts ≡ o
  deepest : most_open o ts ≡ o + groups

in_group : (o : ℕ) (word : List ℕ) (inner : List Lexeme) (groups : ℕ) → Lies (o + 1) inner groups
    → Lies o (group word inner) (1 + groups)
in_group o word inner groups h = record {
  closed = behind_append (o + 1) inner (RightParen ∷ []) ∙ ap (λ n. n - 1) h.closed ∙ one_less o;
  deepest = in_parens o (most_open (o + 1) (inner ++ RightParen ∷ [])) (most_open (o + 1) inner)
      (open_behind (o + 1) inner) groups (most_append (o + 1) inner (RightParen ∷ [])) h.closed h.deepest;
}
  where
    one_less : (n : ℕ) → n + 1 - 1 ≡ n
    one_less n = omega arith

    in_parens : (o whole inside behind groups : ℕ) → whole ≡ max inside (max behind (behind - 1))
        → behind ≡ o + 1 → inside ≡ o + 1 + groups → max o (max o whole) ≡ o + (1 + groups)
    in_parens o whole inside behind groups is b i = omega (arith, is, b, i)

after_comma : (o : ℕ) (ts us : List Lexeme) (groups others : ℕ) → Lies o ts groups → Lies o us others
    → Lies o (ts ++ Comma ∷ us) (max groups others)
after_comma o ts us groups others h k = record {
  closed = behind_append o ts (Comma ∷ us) ∙ ap (λ n. open_behind n us) h.closed ∙ k.closed;
  deepest =
      most_append o ts (Comma ∷ us) ∙ ap (λ n. max (most_open o ts) (max n (most_open n us))) h.closed
      ∙ either (most_open o ts) (most_open o us) o groups others h.deepest k.deepest;
}
  where
    either : (m n o groups others : ℕ) → m ≡ o + groups → n ≡ o + others
        → max m (max o n) ≡ o + max groups others
    either m n o groups others is js = omega (arith, is, js)

in_none : (o : ℕ) → Lies o [] 0
in_none o = record { closed = refl; deepest = none_more o }
  where
    none_more : (n : ℕ) → n ≡ n + 0
    none_more n = omega arith

-- a token that is no parenthesis
of_one : (o : ℕ) → max o o ≡ o + 0
of_one o = omega arith

of_three : (o : ℕ) → max o (max o (max o o)) ≡ o + 0
of_three o = omega arith

last_only : (n : ℕ) (es : Trees) → es ≡ none → max n (groups_below es) ≡ n
last_only n es is = ap (λ z. max n (groups_below z)) is ∙ with_none n
  where
    with_none : (n : ℕ) → max n 0 ≡ n
    with_none n = omega arith

mutual
  lies : (o : ℕ) (e : Tree) (ts : List Lexeme) → Spells e ts → Lies o ts (groups_down e)
  lies o (Not e) ts (inner, spells, is) =
      subst (λ zs. Lies o zs (1 + groups_down e)) (sym is)
      (in_group o (codes "not") inner (groups_down e) (lies (o + 1) e inner spells))
  lies o (All es) ts (inner, spell, is) =
      subst (λ zs. Lies o zs (1 + groups_below es)) (sym is)
      (in_group o (codes "all") inner (groups_below es) (members_lie (o + 1) es inner spell))
  lies o (Any es) ts (inner, spell, is) =
      subst (λ zs. Lies o zs (1 + groups_below es)) (sym is)
      (in_group o (codes "any") inner (groups_below es) (members_lie (o + 1) es inner spell))
  lies o (Value (Alone n)) ts (is, may) =
      subst (λ zs. Lies o zs 0) (sym is) (record { closed = refl; deepest = of_one o })
  lies o (Value (KeyPair k v)) ts (is, may) =
      subst (λ zs. Lies o zs 0) (sym is) (record { closed = refl; deepest = of_three o })
  lies o True ts is = subst (λ zs. Lies o zs 0) (sym is) (record { closed = refl; deepest = of_one o })
  lies o False ts is = subst (λ zs. Lies o zs 0) (sym is) (record { closed = refl; deepest = of_one o })

  members_lie : (o : ℕ) (es : Trees) (ts : List Lexeme) → SpellMembers es ts → Lies o ts (groups_below es)
  members_lie o none ts is = subst (λ zs. Lies o zs 0) (sym is) (in_none o)
  members_lie o (tree e es) ts (first, spells, inl (last, is)) =
      subst (λ zs. Lies o zs (max (groups_down e) (groups_below es))) (sym is)
      (subst (Lies o first) (sym (last_only (groups_down e) es last)) (lies o e first spells))
  members_lie o (tree e es) ts (first, spells, inr (others, is, spell)) =
      subst (λ zs. Lies o zs (max (groups_down e) (groups_below es))) (sym is)
      (after_comma o first others (groups_down e) (groups_below es) (lies o e first spells)
      (members_lie o es others spell))

nested_as_tree : (text : List ℕ) (e : Tree) → IsTreeText text e → IsNesting text (groups_down e)
nested_as_tree text e (ts, cut, spells) = (
  ts,
  length text,
  cut,
  subst (IsMostOpen (lexemes ts)) ((lies 0 e (lexemes ts) spells).deepest ∙ from_none (groups_down e))
      (is_most_open (lexemes ts)),
)
  where
    from_none : (n : ℕ) → 0 + n ≡ n
    from_none n = omega arith

-- ---- a text has one nesting

one_most : (ts : List Lexeme) (m n : ℕ) → IsMostOpen ts m → IsMostOpen ts n → m ≡ n
one_most ts m n h k = same m n (under m n k.1.0 k.1.1 h.0) (under n m h.1.0 h.1.1 k.0)
  where
    under : (most some : ℕ) (k : ℕ) → open_behind 0 (take k ts) ≡ some → IsWithin most ts → some ≤ most
    under most some k is within = subst (λ z. z ≤ most) is (within k)

    same : (m n : ℕ) → n ≤ m → m ≤ n → m ≡ n
    same m n h k = omega (arith, h, k)

one_nesting : (text : List ℕ) (m n : ℕ) → IsNesting text m → IsNesting text n → m ≡ n
one_nesting text m n (ts, tail, cut, deep) (us, end, other, deeper) =
    let is = one_cut_from text us ts 0 end tail other cut in
    one_most (lexemes ts) m n deep (subst (λ zs. IsMostOpen (lexemes zs) n) is.0 deeper)

pub deep_as_tree : (text : List ℕ) (n : ℕ) → IsNesting text n → IsDeepAsTree text n
deep_as_tree text n h e spells = one_nesting text n (groups_down e) h (nested_as_tree text e spells)

-- ---- where a number is passed, the nesting is larger

first_tokens : (before after : List Lexeme) (t : Lexeme)
    → take (length before + 1) (before ++ t ∷ after) ≡ before ++ t ∷ []
first_tokens before after t = take-append-add before (t ∷ after) 1

opened_there : (most n : ℕ) (before after : List Lexeme) (t : Lexeme) → t ≡ LeftParen → open_behind 0 before ≡ most
    → IsWithin n (before ++ t ∷ after) → most < n
opened_there most n before after t paren is within =
    larger most n (open_behind 0 before) (open_after (open_behind 0 before) t) (ap (open_after (open_behind 0 before))
    paren)
    is
    (subst (λ z. z ≤ n) (ap (open_behind 0) (first_tokens before after t) ∙ behind_append 0 before (t ∷ []))
    (within (length before + 1)))
  where
    larger : (most n before after : ℕ) → after ≡ before + 1 → before ≡ most → after ≤ n → most < n
    larger most n before after one is within = omega (arith, one, is, within)

token_of : Item → Placed → Placed
token_of (Token t) d = t
token_of (Lexical fault at) d = d
token_of Nothing d = d

pub passed_beyond : (text : List ℕ) (most at : ℕ) → IsPassedAt text most at → IsNestedBeyond text most
unfolding token_of
passed_beyond text most at p n (ts, tail, cut, deep) =
    let left = first_left text 0 p.paren.end tail p.before ts (Token p.paren) cut.last cut.no_token cut.comes p.comes in
    go left.0 left.1 left.2
  where
    go : (rest : List Placed) → ts ≡ p.before ++ rest → Token p.paren ≡ next_before cut.last rest → most < n
    go [] is next = absurd (true≢false (ap is_token next ∙ cut.no_token))
    go (u ∷ us) is next =
        let paren : u.token ≡ LeftParen = sym (ap (λ i. (token_of i u).token) next) ∙ p.is_paren in
        opened_there most n (lexemes p.before) (lexemes us) u.token paren p.all_open
        (subst (IsWithin n) (ap lexemes is ∙ map-append (λ (v : Placed). v.token) p.before (u ∷ us)) deep.0)
