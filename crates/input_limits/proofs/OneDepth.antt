-- A text is nested deeper than a number from one place on, or it is not.
use Rattle.std.proofs.Common.{◌≡◌, refl, sym, ap, subst, ◌∙◌, ℕ, zero, suc, ◌+◌, ◌-◌, ◌≤◌, ◌<◌, ◌⊎◌, inl, inr, max}
use Rattle.std.proofs.Common.{false, true≢false, List, [], ◌∷◌, ◌++◌, take, append_assoc, append-nil, arith, IsUtf8}
use Rattle.std.proofs.lemmas.Bool.{cases_lt}
use Rattle.std.proofs.lemmas.List.{map-append}
use Rattle.cargo_platform.specs.Tokens.{Lexeme, LeftParen, RightParen, Ident, Comma, Equals, String, Placed}
use Rattle.cargo_platform.specs.Cut.{Item, Token, ComesBehind, lexemes, is_token, IsCut}
use Rattle.cargo_platform.specs.Nesting.{open_after, open_behind, IsWithin, IsNesting, IsNestedWithin, IsPassedAt}
use Rattle.cargo_platform.proofs.OpenParens.{most_open, most_append, behind_append, is_most_open, passed_beyond}
use Rattle.cargo_platform.proofs.Paths.{first_left, next_before}
use Rattle.cargo_platform.proofs.SomeCut.{some_cut}
use Rattle.input_limits.specs.Limits.{IsShallow, IsDeepAt}
use Rattle.input_limits.specs.Laws.{HasDepth, IsNotBoth, HasOnePlace}

-- ---- some depth

-- a token of a cut comes after those before it
comes_at : (text : List ℕ) (from tail : ℕ) (before after : List Placed) (u : Placed) (last : Item)
    → ComesBehind text from (before ++ u ∷ after) last tail → ComesBehind text from before (Token u) u.end
comes_at text from tail [] after u last c = c.0
comes_at text from tail (t ∷ ts) after u last c = (c.0, comes_at text t.end tail ts after u last c.1)

-- only `(` opens one more
opens : (o most : ℕ) (t : Lexeme) → o ≤ most → most < open_after o t → (t ≡ LeftParen) × (o ≡ most)
opens o most LeftParen within beyond = (refl, omega (arith, within, beyond))
opens o most RightParen within beyond = absurd (omega (arith, within, beyond))
opens o most (Ident raw name) within beyond = absurd (omega (arith, within, beyond))
opens o most Comma within beyond = absurd (omega (arith, within, beyond))
opens o most Equals within beyond = absurd (omega (arith, within, beyond))
opens o most (String value) within beyond = absurd (omega (arith, within, beyond))

below : (a b c : ℕ) → a ≤ b → b ≤ c → a ≤ c
below a b c h k = omega (arith, h, k)

largest : (m o n most whole : ℕ) → m ≤ most → o ≤ most → n ≤ most → whole ≡ max m (max o n) → whole ≤ most
largest m o n most whole h k l is = omega (arith, h, k, l, is)

abbrev Found : List ℕ → ℕ → Type 0
Found text most = IsNestedWithin text most ⊎ ((at : ℕ) × IsPassedAt text most at)

seek : (text : List ℕ) (most tail : ℕ) (last : Item) (before after : List Placed) → is_token last ≡ false
    → ComesBehind text 0 (before ++ after) last tail → most_open 0 (lexemes before) ≤ most
    → open_behind 0 (lexemes before) ≤ most → Found text most
seek text most tail last before [] none c within here =
    let comes = subst (λ (zs : List Placed). ComesBehind text 0 zs last tail) (append-nil before) c in
    inl (
      most_open 0 (lexemes before),
      (
        before,
        tail,
        record { last = last; no_token = none; comes = comes },
        is_most_open (lexemes before),
      ),
      within,
    )
seek text most tail last before (u ∷ us) none c within here =
    let o : ℕ = open_behind 0 (lexemes before) in
    let new : ℕ = open_after o u.token in
    let ls : lexemes (before ++ u ∷ []) ≡ lexemes before ++ u.token ∷ [] =
    map-append (λ (v : Placed). v.token) before (u ∷ []) in
    elim (cases_lt most new) [
      | inl beyond ↦
          let paren = opens o most u.token here beyond in
          inr (
            u.start,
            record {
              before = before;
              paren = u;
              comes = comes_at text 0 tail before us u last c;
              is_paren = paren.0;
              place = refl;
              within = λ k.
                  below (open_behind 0 (take k (lexemes before))) (most_open 0 (lexemes before)) most
                  ((is_most_open (lexemes before)).0 k) within;
              all_open = paren.1;
            },
          )
      | inr no_more ↦
          let on = subst (λ (zs : List Placed). ComesBehind text 0 zs last tail) (sym (append_assoc before (u ∷ []) us))
          c in
          let larger = largest (most_open 0 (lexemes before)) o new most (most_open 0 (lexemes (before ++ u ∷ [])))
          within here no_more
          (ap (most_open 0) ls ∙ most_append 0 (lexemes before) (u.token ∷ [])) in
          let there = subst (λ z. z ≤ most) (sym (ap (open_behind 0) ls ∙ behind_append 0 (lexemes before) (u.token ∷
          [])))
          no_more in
          seek text most tail last (before ++ u ∷ []) us none on larger there
    ]

pub some_depth : (text : List ℕ) (most : ℕ) → IsUtf8 text → Found text most
some_depth text most u =
    let cut = some_cut text u in
    seek text most cut.1 cut.2.last [] cut.0 cut.2.no_token cut.2.comes (omega arith) (omega arith)

pub some_depth_of_key : (key : List ℕ) → IsUtf8 key → HasDepth key
some_depth_of_key key u = some_depth key 100_001 u

-- ---- not both

contrary : (most n : ℕ) → n ≤ most → most < n → ⊥
contrary most n h k = omega (arith, h, k)

pub not_both : (key : List ℕ) (at : ℕ) → IsNotBoth key at
not_both key at (n, nesting, within) deep = contrary 100_001 n within (passed_beyond key 100_001 at deep n nesting)

-- ---- one place

same_head : (t u : Placed) (ts us : List Placed) → t ∷ ts ≡ u ∷ us → t ≡ u
same_head t u ts us is = ap (head_or t) is
  where
    head_or : Placed → List Placed → Placed
    head_or d [] = d
    head_or d (x ∷ xs) = x

same_tail : (t u : Placed) (ts us : List Placed) → t ∷ ts ≡ u ∷ us → ts ≡ us
same_tail t u ts us is = ap tail_of is
  where
    tail_of : List Placed → List Placed
    tail_of [] = []
    tail_of (x ∷ xs) = xs

-- where this many are open, a `(` opens one too many
too_many : (o most : ℕ) (t : Lexeme) → t ≡ LeftParen → o ≡ most → open_after o t ≤ most → ⊥
too_many o most t paren is within = more (subst (λ z. open_after o z ≤ most) paren within)
  where
    more : o + 1 ≤ most → ⊥
    more h = omega (arith, is, h)

abbrev Stays : ℕ → ℕ → List Lexeme → Type 0
Stays o most ts = (k : ℕ) → open_behind o (take k ts) ≤ most

same_paren : (o most : ℕ) (b c r s : List Placed) (p q : Placed) → b ++ p ∷ r ≡ c ++ q ∷ s
    → p.token ≡ LeftParen → q.token ≡ LeftParen → open_behind o (lexemes b) ≡ most → open_behind o (lexemes c) ≡ most
    → Stays o most (lexemes b) → Stays o most (lexemes c) → p ≡ q
same_paren o most [] [] r s p q is pp pq ob oc wb wc = same_head p q r s is
same_paren o most [] (t ∷ c) r s p q is pp pq ob oc wb wc =
    let same : p ≡ t = same_head p t r (c ++ q ∷ s) is in
    absurd (too_many o most t.token (subst (λ (z : Placed). z.token ≡ LeftParen) same pp) ob (wc 1))
same_paren o most (t ∷ b) [] r s p q is pp pq ob oc wb wc =
    let same : t ≡ q = same_head t q (b ++ p ∷ r) s is in
    absurd (too_many o most t.token (subst (λ (z : Placed). z.token ≡ LeftParen) (sym same) pq) oc (wb 1))
same_paren o most (t ∷ b) (u ∷ c) r s p q is pp pq ob oc wb wc =
    let same : u ≡ t = sym (same_head t u (b ++ p ∷ r) (c ++ q ∷ s) is) in
    let rest = same_tail t u (b ++ p ∷ r) (c ++ q ∷ s) is in
    let after = open_after o t.token in
    same_paren after most b c r s p q rest pp pq ob
    (subst (λ (z : Placed). open_behind (open_after o z.token) (lexemes c) ≡ most) same oc)
    (λ k. wb (suc k))
    (subst (λ (z : Placed). Stays (open_after o z.token) most (lexemes c)) same (λ k. wc (suc k)))

token_of : Item → Placed → Placed
token_of (Token t) d = t
token_of i d = d

abbrev IsAhead : List Placed → List Placed → Placed → Type 0
IsAhead ts before paren = (rest : List Placed) × (ts ≡ before ++ paren ∷ rest)

ahead : (text : List ℕ) (tail to : ℕ) (ts before : List Placed) (paren : Placed) (last : Item) → is_token last ≡ false
    → ComesBehind text 0 ts last tail → ComesBehind text 0 before (Token paren) to → IsAhead ts before paren
unfolding token_of
ahead text tail to ts before paren last none c h =
    let left = first_left text 0 to tail before ts (Token paren) last none c h in
    go left.0 left.1 left.2
  where
    go : (rest : List Placed) → ts ≡ before ++ rest → Token paren ≡ next_before last rest → IsAhead ts before paren
    go [] is next = absurd (true≢false (ap is_token next ∙ none))
    go (u ∷ us) is next =
        let same : u ≡ paren = sym (ap (λ i. token_of i u) next) in
        (us, subst (λ (z : Placed). ts ≡ before ++ z ∷ us) same is)

one_place_of : (text : List ℕ) (most at other : ℕ) → IsUtf8 text → IsPassedAt text most at → IsPassedAt text most other
    → at ≡ other
one_place_of text most at other u a b =
    let cut = some_cut text u in
    let first = ahead text cut.1 a.paren.end cut.0 a.before a.paren cut.2.last cut.2.no_token cut.2.comes a.comes in
    let second = ahead text cut.1 b.paren.end cut.0 b.before b.paren cut.2.last cut.2.no_token cut.2.comes b.comes in
    let same = same_paren 0 most a.before b.before first.0 second.0 a.paren b.paren (sym first.1 ∙ second.1)
    a.is_paren b.is_paren a.all_open b.all_open a.within b.within in
    sym a.place ∙ ap (λ (p : Placed). p.start) same ∙ b.place

pub one_place : (key : List ℕ) (at other : ℕ) → IsUtf8 key → HasOnePlace key at other
one_place key at other u a b = one_place_of key 100_001 at other u a b
