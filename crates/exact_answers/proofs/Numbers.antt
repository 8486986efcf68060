-- The numbers of pairs.
use Rattle.std.proofs.Common.{◌≡◌, ◌∙◌, refl, sym, ap, subst, ℕ, zero, suc, ◌<◌, Bool, true, None, List, [], ◌∷◌, ◌++◌}
use Rattle.std.proofs.Common.{length, get_or, drop, ◌+◌, arith}
use Rattle.std.specs.Borrow.{Bor}
use Rattle.std.proofs.lemmas.List.{map-append, length-map, drop_more}
use Rattle.cargo_platform.specs.declared.cfg.Cfg.{Cfg}
use Rattle.cargo_platform.specs.Trees.{value_of}
use Rattle.cargo_platform.specs.Facts.{Pair, pair_of}
use Rattle.exact_answers.specs.Goals.{StandsAt, pairs_of}
use Rattle.exact_answers.specs.declared.outlook.PairSets.{PairSets}
use Rattle.exact_answers.specs.Inside.Paths.{Base, Turn, told_on}
use Rattle.exact_answers.specs.Inside.Ahead.{table_pairs, AreAmong, IsOpenAt, AreTold}

-- ---- a further pair

at_more : (ps qs : List Pair) (n : ℕ) (p : Pair) → StandsAt ps n p → StandsAt (ps ++ qs) n p
at_more [] qs n p h = absurd h
at_more (r ∷ ps) qs zero p h = h
at_more (r ∷ ps) qs (suc n) p h = at_more ps qs n p h

at_last : (ps : List Pair) (q : Pair) → StandsAt (ps ++ q ∷ []) (length ps) q
at_last [] q = refl
at_last (r ∷ ps) q = at_last ps q

among_more : (among : Pair → Bool) (ps : List Pair) (q : Pair) → among q ≡ true → AreAmong among ps
    → (n : ℕ) (p : Pair) → StandsAt (ps ++ q ∷ []) n p → among p ≡ true
among_more among [] q is all zero p at = ap among (sym at) ∙ is
among_more among [] q is all (suc n) p at = absurd at
among_more among (r ∷ ps) q is all zero p at = all zero p at
among_more among (r ∷ ps) q is all (suc n) p at = among_more among ps q is (λ n p. all (suc n) p) n p at

pushed_pairs : (old new : List (Bor Cfg)) (c : Bor Cfg) → new ≡ old ++ c ∷ []
    → pairs_of new ≡ pairs_of old ++ pair_of (value_of c.now) ∷ []
pushed_pairs old new c is = ap pairs_of is ∙ map-append (λ c. pair_of (value_of c.now)) old (c ∷ [])

pub kept_number : (old new : List (Bor Cfg)) (c : Bor Cfg) (n : ℕ) (p : Pair) → new ≡ old ++ c ∷ []
    → StandsAt (pairs_of old) n p → StandsAt (pairs_of new) n p
kept_number old new c n p is h =
    subst (λ ps. StandsAt ps n p) (sym (pushed_pairs old new c is)) (at_more (pairs_of old) _ n p h)

pub new_number : (old new : List (Bor Cfg)) (c : Bor Cfg) (n : ℕ) → new ≡ old ++ c ∷ [] → n ≡ length old
    → StandsAt (pairs_of new) n (pair_of (value_of c.now))
new_number old new c n is long =
    let q = pair_of (value_of c.now) in
    subst (λ ps. StandsAt ps n q) (sym (pushed_pairs old new c is))
    (subst (λ n. StandsAt (pairs_of old ++ q ∷ []) n q)
    (length-map old (λ c. pair_of (value_of c.now)) ∙ sym long) (at_last (pairs_of old) q))

pub among_pushed : (among : Pair → Bool) (old new : List (Bor Cfg)) (c : Bor Cfg) → new ≡ old ++ c ∷ []
    → among (pair_of (value_of c.now)) ≡ true → AreAmong among (pairs_of old) → AreAmong among (pairs_of new)
among_pushed among old new c is h all =
    subst (AreAmong among) (sym (pushed_pairs old new c is)) (among_more among (pairs_of old) _ h all)

-- ---- by index

pub words_at : (ws : List PairSets) (n : ℕ) (w : PairSets) → n < length ws → w ≡ get_or ws n w
    → StandsAt (table_pairs ws) n (pair_of (value_of w.pair.now))
words_at [] n w short is = absurd (let never : ⊥ = omega (arith, short) in never)
words_at (v ∷ ws) zero w short is = ap (λ w. pair_of (value_of w.pair.now)) (sym is)
words_at (v ∷ ws) (suc n) w short is = words_at ws n w (omega (arith, short)) is

-- a number has one pair
pub one_pair : (ps : List Pair) (n : ℕ) (p q : Pair) → StandsAt ps n p → StandsAt ps n q → p ≡ q
one_pair [] n p q h k = absurd h
one_pair (r ∷ ps) zero p q h k = sym h ∙ k
one_pair (r ∷ ps) (suc n) p q h k = one_pair ps n p q h k

short_at : (ps : List Pair) (n : ℕ) (p : Pair) → StandsAt ps n p → n < length ps
short_at [] n p h = absurd h
short_at (r ∷ ps) zero p h = omega arith
short_at (r ∷ ps) (suc n) p h = let less = short_at ps n p h in omega (arith, less)

pub short_number : (ws : List PairSets) (n : ℕ) (p : Pair) → StandsAt (table_pairs ws) n p → n < length ws
short_number ws n p h =
    subst (λ m. n < m) (length-map ws (λ w. pair_of (value_of w.pair.now))) (short_at (table_pairs ws) n p h)

-- ---- open pairs

pub open_there : (ws : List PairSets) (n : ℕ) (w : PairSets) → n < length ws → w ≡ get_or ws n w → w.tells ≡ None
    → IsOpenAt ws n
open_there [] n w short is none = absurd (let never : ⊥ = omega (arith, short) in never)
open_there (v ∷ ws) zero w short is none = ap (λ w. w.tells) (sym is) ∙ none
open_there (v ∷ ws) (suc n) w short is none = open_there ws n w (omega (arith, short)) is none

pub short_open : (ws : List PairSets) (n : ℕ) → IsOpenAt ws n → n < length ws
short_open [] n h = absurd h
short_open (w ∷ ws) zero h = omega arith
short_open (w ∷ ws) (suc n) h = let less = short_open ws n h in omega (arith, less)

pub open_told : (k : Base) (ds : List Turn) (ws : List PairSets) (n : ℕ) (w : PairSets) → w ≡ get_or ws n w
    → IsOpenAt ws n → AreTold k ds ws → told_on k ds (pair_of (value_of w.pair.now)) ≡ None
open_told k ds [] n w is h told = absurd h
open_told k ds (v ∷ ws) zero w is h told =
    ap (λ w. told_on k ds (pair_of (value_of w.pair.now))) is ∙ sym told.0 ∙ h
open_told k ds (v ∷ ws) (suc n) w is h told = open_told k ds ws n w is h told.1

pub told_more : (k : Base) (ds : List Turn) (ws : List PairSets) (w : PairSets) → AreTold k ds ws
    → w.tells ≡ told_on k ds (pair_of (value_of w.pair.now)) → AreTold k ds (ws ++ w ∷ [])
told_more k ds [] w told is = (is, tt)
told_more k ds (v ∷ ws) w told is = (told.0, told_more k ds ws w told.1 is)

pub told_pair : (k : Base) (ds : List Turn) (p q : Pair) → q ≡ p → told_on k ds p ≡ told_on k ds q
told_pair k ds p q is = ap (told_on k ds) (sym is)

-- ---- the words of the pairs so far, and the pairs that are left

joined_pairs : (ws : List PairSets) (w : PairSets) (q : Pair) (qs : List Pair) → pair_of (value_of w.pair.now) ≡ q
    → table_pairs (ws ++ w ∷ []) ++ qs ≡ table_pairs ws ++ q ∷ qs
joined_pairs [] w q qs is = ap (λ q. q ∷ qs) is
joined_pairs (v ∷ ws) w q qs is = ap (λ ps. pair_of (value_of v.pair.now) ∷ ps) (joined_pairs ws w q qs is)

pub pairs_left : (ws new : List PairSets) (cs : List (Bor Cfg)) (n : ℕ) (c : Bor Cfg) (w : PairSets) → n < length cs
    → c ≡ get_or cs n c → new ≡ ws ++ w ∷ [] → pair_of (value_of w.pair.now) ≡ pair_of (value_of c.now)
    → table_pairs ws ++ pairs_of (drop n cs) ≡ pairs_of cs
    → table_pairs new ++ pairs_of (drop (n + 1) cs) ≡ pairs_of cs
pairs_left ws new cs n c w short at is same h =
    ap (λ ws. table_pairs ws ++ pairs_of (drop (n + 1) cs)) is
    ∙ joined_pairs ws w (pair_of (value_of c.now)) (pairs_of (drop (n + 1) cs)) same
    ∙ ap (λ cs. table_pairs ws ++ pairs_of cs)
    (sym (drop_more cs n c short ∙ ap (λ x. x ∷ drop (n + 1) cs) (sym at))) ∙ h

pub none_among : (among : Pair → Bool) (ps : List Pair) → ps ≡ [] → AreAmong among ps
none_among among [] is n p at = absurd at
none_among among (q ∷ ps) is n p at = cc
