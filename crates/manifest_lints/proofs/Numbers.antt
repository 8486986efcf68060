-- Numbers of conditions that are as true.
use Prim.Native.Nat.{zero, suc}
use native.Mathlib.Numerals.{unary_clauses}
use Rattle.std.proofs.Common.{◌≡◌, ◌∙◌, refl, sym, ap, subst, ℕ, ◌+◌, ◌*◌, ◌%◌, ◌^◌, ◌<◌, ◌≤◌, Bool, true, false}
use Rattle.std.proofs.Common.{◌&&◌, ◌||◌, not, true≢false, inl, inr, arith, List, [], ◌∷◌, ◌++◌, cond}
use Rattle.std.proofs.Common.{Option, Some, None, eq-eqb, ◌==◌, length, length-append}
use Rattle.std.specs.Prelude.{bit_or, nat_eq, bytes_eq}
use Rattle.std.specs.Int.Bits.{or_add_and}
use Rattle.std.proofs.lemmas.Bool.{cases_eq}
use Rattle.std.proofs.lemmas.Slice.Eq.{bytes_eq-Decides}
use Rattle.cargo_platform.specs.Facts.{Pair}
use Rattle.partial_facts.specs.OneValued.{either}
use Rattle.manifest_lints.specs.Samples.{AreBits, is_set, is_only, mixed, mixed_value, spread}
use Rattle.manifest_lints.specs.Numbers.{is_unknown_value, same_value, same_pair, has_pair, unknown_beside}
use Rattle.manifest_lints.specs.Numbers.{first_bits, summed, apart}
use Rattle.manifest_lints.proofs.SetWords.{same_word, one_more_bit, no_more_bit, none_set, away}
use Rattle.manifest_lints.proofs.SetWords.{left_true, right_true}
use Rattle.manifest_lints.proofs.Samples.{or_false, or_assoc, or_right, not_true}

-- ---- words by their bits

module _ (tells : ℕ → Bool) where
  below : (n : ℕ) → first_bits n tells < 2 ^ n
  unfolding first_bits
  below zero = omega arith
  below (suc n) =
      let w = first_bits n tells in
      let bit = 1 * 2 ^ n % 2 ^ 64 in
      let small : bit ≤ 2 ^ n = omega arith in
      let less : w < 2 ^ n = below n in
      let both = or_add_and w bit in
      let twice : 2 ^ suc n ≡ 2 ^ n * 2 = simp unary_clauses refl in
      elim (tells n) as (λ b. cond b (bit_or w bit) w < 2 ^ suc n) [
        | true ↦ omega (arith, small, less, both, twice)
        | false ↦ omega (arith, less, twice)
      ]

  one_more : (w n l : ℕ) (b : Bool) → n < 64
      → is_set (cond b (bit_or w (1 * 2 ^ n % 2 ^ 64)) w) l ≡ (((l == n) && b) || is_set w l)
  one_more w n l true low = one_more_bit w n l true low refl
  one_more w n l false low = no_more_bit w n l false refl

  past : (n l : ℕ) → n ≤ 64 → n ≤ l → is_set (first_bits n tells) l ≡ false
  unfolding first_bits
  past zero l few high = none_set l
  past (suc n) l few high = elim (cases_eq l n) [
    | inl same ↦ absurd (omega arith)
    | inr other ↦
        one_more (first_bits n tells) n l (tells n) (omega arith)
        ∙ ap (λ b. (b && tells n) || is_set (first_bits n tells) l) (away l n other)
        ∙ past n l (omega arith) (omega arith)
  ]

  at : (n l : ℕ) → n ≤ 64 → l < n → is_set (first_bits n tells) l ≡ tells l
  unfolding first_bits
  at zero l few low = absurd (omega arith)
  at (suc n) l few low = elim (cases_eq l n) [
    | inl same ↦
        one_more (first_bits n tells) n l (tells n) (omega arith)
        ∙ (λ i. (eq-eqb l n same i && tells n) || past n l (omega arith) (omega arith) i)
        ∙ or_false (tells n) ∙ sym (ap tells same)
    | inr other ↦
        one_more (first_bits n tells) n l (tells n) (omega arith)
        ∙ ap (λ b. (b && tells n) || is_set (first_bits n tells) l) (away l n other)
        ∙ at n l (omega arith) (omega arith)
  ]

  pub word_is : (w : ℕ) → w < 2 ^ 64 → AreBits tells w → w ≡ first_bits 64 tells
  word_is w small is =
      same_word w (first_bits 64 tells) small (below 64) (λ l low. is l low ∙ sym (at 64 l (omega arith) low))

pub same_bits : (n : ℕ) (s t : ℕ → Bool) → ((l : ℕ) → l < n → s l ≡ t l) → first_bits n s ≡ first_bits n t
unfolding first_bits
same_bits zero s t same = refl
same_bits (suc n) s t same =
    let word = same_bits n s t (λ l low. same l (omega arith)) in
    λ i. cond (same n (omega arith) i) (bit_or (word i) (1 * 2 ^ n % 2 ^ 64)) (word i)

pub apart_none : (with_it without : ℕ) (p : Pair) → with_it ≡ without → apart with_it without p ≡ 0
unfolding apart
apart_none with_it without p same =
    ap (λ b. cond b 0 (spread (mixed_value (mixed (spread with_it) p.name) p.value))) (eq-eqb with_it without same)

pub apart_some : (with_it without : ℕ) (p : Pair) → nat_eq with_it without ≡ false
    → spread (mixed_value (mixed (spread with_it) p.name) p.value) ≡ apart with_it without p
unfolding apart
apart_some with_it without p other =
    sym (ap (λ b. cond b 0 (spread (mixed_value (mixed (spread with_it) p.name) p.value))) other)

-- ---- pairs that are the same

value_same : (v w : Option (List ℕ)) → same_value v w ≡ true → v ≡ w
value_same None None h = refl
value_same None (Some w) h = absurd (true≢false (sym h))
value_same (Some v) None h = absurd (true≢false (sym h))
value_same (Some v) (Some w) h = ap Some ((bytes_eq-Decides v w).0 h)

same_itself : (v : Option (List ℕ)) → same_value v v ≡ true
same_itself None = refl
same_itself (Some v) = (bytes_eq-Decides v v).1 refl

pub pair_same : (p q : Pair) → same_pair p q ≡ true → p ≡ q
pair_same p q h =
    let names : p.name ≡ q.name =
    (bytes_eq-Decides p.name q.name).0 (left_true (bytes_eq p.name q.name) (same_value p.value q.value) h) in
    let values : p.value ≡ q.value =
    value_same p.value q.value (right_true (bytes_eq p.name q.name) (same_value p.value q.value) h) in
    λ i. record { name = names i; value = values i }

pub pair_itself : (p : Pair) → same_pair p p ≡ true
pair_itself p = λ i. (bytes_eq-Decides p.name p.name).1 refl i && same_itself p.value i

pub pair_is : (p q : Pair) → p ≡ q → same_pair p q ≡ true
pair_is p q is = subst (λ x. same_pair p x ≡ true) is (pair_itself p)

turned : (p q : Pair) → same_pair p q ≡ false → same_pair q p ≡ false
turned p q apart_they = elim (same_pair q p) as (λ b. same_pair q p ≡ b → b ≡ false) [
  | true ↦ λ e. absurd (true≢false (sym (pair_is p q (sym (pair_same q p e))) ∙ apart_they))
  | false ↦ λ e. refl
] refl

-- of a key, a value that is not this one
only_value : (v w : Option (List ℕ)) → same_value v w ≡ false → is_only v w ≡ is_only None w
only_value v None other = refl
only_value None (Some w) other = refl
only_value (Some v) (Some w) other = elim (bytes_eq w v) as (λ b. bytes_eq w v ≡ b → b ≡ false) [
  | true ↦ λ e. absurd (true≢false (sym ((bytes_eq-Decides v w).1 (sym ((bytes_eq-Decides w v).0 e))) ∙ other))
  | false ↦ λ e. refl
] refl

pub only_others : (p q : Pair) → bytes_eq q.name p.name ≡ true → same_pair p q ≡ false
    → is_only p.value q.value ≡ is_only None q.value
only_others p q named other =
    let names : bytes_eq p.name q.name ≡ true =
    (bytes_eq-Decides p.name q.name).1 (sym ((bytes_eq-Decides q.name p.name).0 named)) in
    only_value p.value q.value (sym (ap (λ b. b && same_value p.value q.value) names) ∙ other)

neither : (a b : Bool) → (a || b) ≡ false → (a ≡ false) × (b ≡ false)
neither true b h = absurd (true≢false h)
neither false b h = (refl, h)

-- ---- lists with no pair twice

abbrev pub AreDistinct : List Pair → Type 0
AreDistinct [] = Unit {0}
AreDistinct (p ∷ ps) = (has_pair ps p ≡ false) × AreDistinct ps

among_push : (ps : List Pair) (p q : Pair) → has_pair (ps ++ p ∷ []) q ≡ (has_pair ps q || same_pair q p)
among_push [] p q = or_false (same_pair q p)
among_push (x ∷ ps) p q =
    ap (λ b. same_pair q x || b) (among_push ps p q) ∙ sym (or_assoc (same_pair q x) (has_pair ps q) (same_pair q p))

distinct_push : (ps : List Pair) (p : Pair) → AreDistinct ps → has_pair ps p ≡ false → AreDistinct (ps ++ p ∷ [])
distinct_push [] p distinct none = (refl, tt)
distinct_push (x ∷ ps) p distinct none =
    let two = neither (same_pair p x) (has_pair ps p) none in (
      among_push ps p x ∙ (λ i. distinct.0 i || turned p x two.0 i),
      distinct_push ps p distinct.1 two.1,
    )

-- ---- the unknown values of a list

not_false : (b : Bool) → not b ≡ false → b ≡ true
not_false true h = refl
not_false false h = absurd (true≢false h)

pub each_distinct : (found ps : List Pair) → AreDistinct found → AreDistinct (unknown_beside found ps)
each_distinct found [] distinct = distinct
each_distinct found (p ∷ ps) distinct =
    let new = is_unknown_value p && not (has_pair found p) in
    elim new as (λ b. new ≡ b → AreDistinct (unknown_beside (cond b (found ++ p ∷ []) found) ps)) [
      | true ↦ λ is. each_distinct (found ++ p ∷ []) ps (distinct_push found p distinct
          (not_true (has_pair found p) (right_true (is_unknown_value p) (not (has_pair found p)) is)))
      | false ↦ λ is. each_distinct found ps distinct
    ] refl

-- none is lost
pub longer : (found ps : List Pair) → length found ≤ length (unknown_beside found ps)
longer found [] = omega arith
longer found (p ∷ ps) =
    let new = is_unknown_value p && not (has_pair found p) in
    elim new as (λ b. length found ≤ length (unknown_beside (cond b (found ++ p ∷ []) found) ps)) [
      | true ↦
          let more : length (found ++ p ∷ []) ≡ length found + 1 = length-append found (p ∷ []) in
          let rest = longer (found ++ p ∷ []) ps in
          omega (arith, more, rest)
      | false ↦ longer found ps
    ]

pub each_unknown : (found ps : List Pair) (x : Pair) → (has_pair found x ≡ true → is_unknown_value x ≡ true)
    → has_pair (unknown_beside found ps) x ≡ true → is_unknown_value x ≡ true
each_unknown found [] x before = before
each_unknown found (p ∷ ps) x before =
    let new = is_unknown_value p && not (has_pair found p) in
    elim new as (λ b. new ≡ b → has_pair (unknown_beside (cond b (found ++ p ∷ []) found) ps) x ≡ true
    → is_unknown_value x ≡ true) [
      | true ↦ λ is. each_unknown (found ++ p ∷ []) ps x (λ there.
          either (is_unknown_value x ≡ true) (has_pair found x) (same_pair x p) (sym (among_push found p x) ∙ there)
          before (λ same. ap is_unknown_value (pair_same x p same)
          ∙ left_true (is_unknown_value p) (not (has_pair found p)) is))
      | false ↦ λ is. each_unknown found ps x before
    ] refl

kept : (found ps : List Pair) (x : Pair) → has_pair found x ≡ true → has_pair (unknown_beside found ps) x ≡ true
kept found [] x is = is
kept found (p ∷ ps) x is =
    let new = is_unknown_value p && not (has_pair found p) in
    elim new as (λ b. has_pair (unknown_beside (cond b (found ++ p ∷ []) found) ps) x ≡ true) [
      | true ↦ kept (found ++ p ∷ []) ps x (among_push found p x ∙ ap (λ b. b || same_pair x p) is)
      | false ↦ kept found ps x is
    ]

-- a value that is unknown is found already, or now
found_now : (found : List Pair) (x p : Pair) (b : Bool) → same_pair x p ≡ true → is_unknown_value x ≡ true
    → (is_unknown_value p && not (has_pair found p)) ≡ b → has_pair (cond b (found ++ p ∷ []) found) x ≡ true
found_now found x p true same unknown is = among_push found p x ∙ or_right (has_pair found x) (same_pair x p) same
found_now found x p false same unknown is =
    let alike : x ≡ p = pair_same x p same in
    let its : is_unknown_value p ≡ true = sym (ap is_unknown_value alike) ∙ unknown in
    let old : not (has_pair found p) ≡ false = sym (ap (λ b. b && not (has_pair found p)) its) ∙ is in
    ap (has_pair found) alike ∙ not_false (has_pair found p) old

pub all_found : (found ps : List Pair) (x : Pair) → is_unknown_value x ≡ true → has_pair ps x ≡ true
    → has_pair (unknown_beside found ps) x ≡ true
all_found found [] x unknown is = absurd (true≢false (sym is))
all_found found (p ∷ ps) x unknown is =
    let new = is_unknown_value p && not (has_pair found p) in
    let next = cond new (found ++ p ∷ []) found in
    either (has_pair (unknown_beside next ps) x ≡ true) (same_pair x p) (has_pair ps x) is
    (λ same. kept next ps x (found_now found x p new same unknown refl))
    (λ there. all_found next ps x unknown there)

-- ---- sums over lists with no pair twice

abbrev pub total : (Pair → ℕ) → List Pair → ℕ
total f [] = 0
total f (p ∷ ps) = f p + total f ps

abbrev pub without : Pair → (Pair → ℕ) → Pair → ℕ
without p f x = cond (same_pair x p) 0 (f x)

none_summed : (f : Pair → ℕ) (ps : List Pair) → ((x : Pair) → has_pair ps x ≡ true → f x ≡ 0) → total f ps ≡ 0
none_summed f [] none = refl
none_summed f (p ∷ ps) none =
    let here : f p ≡ 0 = none p (ap (λ b. b || has_pair ps p) (pair_itself p)) in
    let rest : total f ps ≡ 0 = none_summed f ps (λ x is. none x (or_right (same_pair x p) (has_pair ps x) is)) in
    λ i. here i + rest i

not_there : (f : Pair → ℕ) (p : Pair) (ps : List Pair) → has_pair ps p ≡ false
    → total (without p f) ps ≡ total f ps
not_there f p [] none = refl
not_there f p (x ∷ ps) none =
    let two = neither (same_pair p x) (has_pair ps p) none in
    let here : without p f x ≡ f x = ap (λ b. cond b 0 (f x)) (turned p x two.0) in
    λ i. here i + not_there f p ps two.1 i

there_once : (f : Pair → ℕ) (p : Pair) (ps : List Pair) → AreDistinct ps → has_pair ps p ≡ true
    → total f ps ≡ f p + total (without p f) ps
there_once f p [] distinct is = absurd (true≢false (sym is))
there_once f p (x ∷ ps) distinct is =
    elim (same_pair p x) as (λ b. same_pair p x ≡ b → total f (x ∷ ps) ≡ f p + total (without p f) (x ∷ ps)) [
      | true ↦ λ same.
          let alike : p ≡ x = pair_same p x same in
          let here : without p f x ≡ 0 = ap (λ b. cond b 0 (f x)) (pair_is x p (sym alike)) in
          let none : has_pair ps p ≡ false = ap (has_pair ps) alike ∙ distinct.0 in
          let value : f x ≡ f p = ap f (sym alike) in
          let rest = not_there f p ps none in
          omega (arith, value, here, rest)
      | false ↦ λ other.
          let here : without p f x ≡ f x = ap (λ b. cond b 0 (f x)) (turned p x other) in
          let rest = there_once f p ps distinct.1 (sym (ap (λ b. b || has_pair ps p) other) ∙ is) in
          let same : without p f x + total (without p f) ps ≡ f x + total (without p f) ps =
          ap (λ n. n + total (without p f) ps) here in
          omega (arith, rest, same)
    ] refl

zero_too : (f : Pair → ℕ) (p x : Pair) → f x ≡ 0 → without p f x ≡ 0
zero_too f p x is = elim (same_pair x p) as (λ b. cond b 0 (f x) ≡ 0) [
  | true ↦ refl
  | false ↦ is
]

zero_past : (f : Pair → ℕ) (p x : Pair) → (same_pair x p ≡ false → f x ≡ 0) → without p f x ≡ 0
zero_past f p x is = elim (same_pair x p) as (λ b. same_pair x p ≡ b → cond b 0 (f x) ≡ 0) [
  | true ↦ λ same. refl
  | false ↦ λ other. is other
] refl

-- where it is 0 at what only one has, both sums are the same
pub same_total : (f : Pair → ℕ) (ps qs : List Pair) → AreDistinct ps → AreDistinct qs
    → ((x : Pair) → has_pair ps x ≡ true → has_pair qs x ≡ false → f x ≡ 0)
    → ((x : Pair) → has_pair qs x ≡ true → has_pair ps x ≡ false → f x ≡ 0) → total f ps ≡ total f qs
same_total f [] qs dp dq only_p only_q = sym (none_summed f qs (λ x is. only_q x is refl))
same_total f (p ∷ ps) qs dp dq only_p only_q =
    let rest : total (without p f) ps ≡ total (without p f) qs = same_total (without p f) ps qs dp.1 dq
    (λ x is none. zero_too f p x (only_p x (or_right (same_pair x p) (has_pair ps x) is) none))
    (λ x is none. zero_past f p x (λ other. only_q x is (λ i. other i || none i))) in
    let first : total f (p ∷ ps) ≡ f p + total (without p f) ps =
    ap (λ n. f p + n) (sym (not_there f p ps dp.0)) in
    let other : total f qs ≡ f p + total (without p f) qs =
    elim (has_pair qs p) as (λ b. has_pair qs p ≡ b → total f qs ≡ f p + total (without p f) qs) [
      | true ↦ λ is. there_once f p qs dq is
      | false ↦ λ none.
          let zero_is : f p ≡ 0 = only_p p (ap (λ b. b || has_pair ps p) (pair_itself p)) none in
          let same = not_there f p qs none in
          omega (arith, zero_is, same)
    ] refl in
    first ∙ ap (λ n. f p + n) rest ∙ sym other

-- ---- sums as words

sum_is : (f : Pair → ℕ) (sum : ℕ) (ps : List Pair) → sum < 2 ^ 64 → summed f sum ps ≡ (sum + total f ps) % 2 ^ 64
sum_is f sum [] small = let same : sum ≡ (sum + 0) % 2 ^ 64 = omega arith in same
sum_is f sum (p ∷ ps) small =
    let below_all : (sum + f p) % 2 ^ 64 < 2 ^ 64 = omega arith in
    let same : ((sum + f p) % 2 ^ 64 + total f ps) % 2 ^ 64 ≡ (sum + (f p + total f ps)) % 2 ^ 64 = omega arith in
    sum_is f ((sum + f p) % 2 ^ 64) ps below_all ∙ same

pub same_total_word : (f : Pair → ℕ) (ps qs : List Pair) → total f ps ≡ total f qs → summed f 0 ps ≡ summed f 0 qs
same_total_word f ps qs same =
    sum_is f 0 ps (omega arith) ∙ ap (λ n. (0 + n) % 2 ^ 64) same ∙ sym (sum_is f 0 qs (omega arith))

-- sums of what is the same at each
pub same_at : (f g : Pair → ℕ) (sum : ℕ) (ps : List Pair) → ((x : Pair) → has_pair ps x ≡ true → f x ≡ g x)
    → summed f sum ps ≡ summed g sum ps
same_at f g sum [] same = refl
same_at f g sum (p ∷ ps) same =
    ap (λ n. summed f ((sum + n) % 2 ^ 64) ps) (same p (ap (λ b. b || has_pair ps p) (pair_itself p)))
    ∙ same_at f g ((sum + g p) % 2 ^ 64) ps (λ x is. same x (or_right (same_pair x p) (has_pair ps x) is))
