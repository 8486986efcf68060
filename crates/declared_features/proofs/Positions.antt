-- The first position of an element in a list to which one is added.
use Rattle.std.proofs.Common.{◌≡◌, ℕ, ◌+◌, ◌<◌, ◌≤◌, Bool, true, false, cond, List, [], ◌∷◌, ◌++◌, length, get_or, take}
use Rattle.std.proofs.Common.{refl, sym, ◌∙◌, ap, Option, Some, None, arith}
use Rattle.std.specs.Prelude.{◌==◌, bytes_eq}
use Rattle.std.specs.List.{position_from}
use Rattle.std.proofs.lemmas.List.{take_more, take_all, length-take-le, ext_get_or, length-map, get_or-map}
use Rattle.std.proofs.lemmas.List.{get_or_default}
use Rattle.std.proofs.lemmas.Slice.Eq.{bytes_eq-Decides}
use Rattle.declared_features.specs.Edges.{underscored, AreSame}
use Rattle.cargo_metadata.specs.Indexes.{indexed}

-- ---- one more element

after : Option ℕ → Option ℕ → Option ℕ
after (Some k) new = Some k
after None new = new

first_or : (test : Bool) (i : ℕ) (longer shorter new : Option ℕ) → longer ≡ after shorter new
    → cond test (Some i) longer ≡ after (cond test (Some i) shorter) new
unfolding after
first_or true i longer shorter new is = refl
first_or false i longer shorter new is = is

position_more : {X : Type 0} (p : X → Bool) (i : ℕ) (xs : List X) (y : X)
    → position_from p i (xs ++ y ∷ []) ≡ after (position_from p i xs) (cond (p y) (Some (i + length xs)) None)
unfolding after
position_more p i [] y =
    let zero : i ≡ i + 0 = omega arith in
    ap (λ (n : ℕ). cond (p y) (Some n) None) zero
position_more p i (x ∷ xs) y =
    let rest = position_more p (i + 1) xs y in
    let count : i + 1 + length xs ≡ i + length (x ∷ xs) = omega arith in
    let moved = ap (λ (n : ℕ). after (position_from p (i + 1) xs) (cond (p y) (Some n) None)) count in
    first_or (p x) i (position_from p (i + 1) (xs ++ y ∷ [])) (position_from p (i + 1) xs)
    (cond (p y) (Some (i + length (x ∷ xs))) None) (rest ∙ moved)

-- ---- one more name

indexing : Option ℕ → Bool → ℕ → Option ℕ → Option ℕ
indexing (Some e) test i old = old
indexing None test i old = cond test (Some i) old

indexed_as : (earlier : Option ℕ) (name q : List ℕ) (i : ℕ) (old : Option ℕ)
    → indexed earlier name i q old ≡ indexing earlier (bytes_eq name q) i old
unfolding indexing
indexed_as (Some e) name q i old = refl
indexed_as None name q i old = refl

-- a name that had an index keeps it
indexing_after : (earlier old : Option ℕ) (test : Bool) (i : ℕ) → (test ≡ true → earlier ≡ old)
    → indexing earlier test i old ≡ after old (cond test (Some i) None)
unfolding indexing after
indexing_after (Some e) (Some k) test i same = refl
indexing_after (Some e) None true i same = absurd (let h = same refl in cc)
indexing_after (Some e) None false i same = refl
indexing_after None (Some k) true i same = absurd (let h = same refl in cc)
indexing_after None (Some k) false i same = refl
indexing_after None None true i same = refl
indexing_after None None false i same = refl

pub index_more : {X : Type 0} (name : X → List ℕ) (xs : List X) (i : ℕ) (x : X) (old new : List ℕ → Option ℕ)
    → i < length xs → x ≡ get_or xs i x → ((q : List ℕ) → new q ≡ indexed (old (name x)) (name x) i q (old q))
    → ((q : List ℕ) → old q ≡ position_from (λ y. bytes_eq (name y) q) 0 (take i xs)) → (q : List ℕ)
    → new q ≡ position_from (λ y. bytes_eq (name y) q) 0 (take (i + 1) xs)
index_more {X} name xs i x old new below is added before q =
    let n = name x in
    let at : List X → Option ℕ = λ l. position_from (λ y. bytes_eq (name y) q) 0 l in
    let whole : at (take (i + 1) xs) ≡ at (take i xs ++ x ∷ []) =
    ap at (take_more xs i x below) ∙ ap (λ (y : X). at (take i xs ++ y ∷ [])) (sym is) in
    let within : i ≤ length xs = omega arith in
    let count = length-take-le i xs within in
    let pushed = position_more (λ y. bytes_eq (name y) q) 0 (take i xs) x in
    let there : 0 + length (take i xs) ≡ i = omega (arith, count) in
    let shifted : at (take i xs ++ x ∷ []) ≡ after (at (take i xs)) (cond (bytes_eq n q) (Some i) None) =
    pushed ∙ ap (λ (k : ℕ). after (at (take i xs)) (cond (bytes_eq n q) (Some k) None)) there in
    added q ∙ indexed_as (old n) n q i (old q)
    ∙ indexing_after (old n) (old q) (bytes_eq n q) i (λ h. ap old ((bytes_eq-Decides n q).0 h))
    ∙ ap (λ (o : Option ℕ). after o (cond (bytes_eq n q) (Some i) None)) (before q)
    ∙ sym shifted ∙ sym whole

-- an element that is copied
pub index_copied : {X : Type 0} (name : X → List ℕ) (xs : List X) (i : ℕ) (default : X) (old new : List ℕ → Option ℕ)
    → i < length xs
    → ((q : List ℕ) → new q
    ≡ indexed (old (name (get_or xs i default))) (name (get_or xs i default)) i q (old q))
    → ((q : List ℕ) → old q ≡ position_from (λ y. bytes_eq (name y) q) 0 (take i xs)) → (q : List ℕ)
    → new q ≡ position_from (λ y. bytes_eq (name y) q) 0 (take (i + 1) xs)
index_copied name xs i default old new below =
    index_more name xs i (get_or xs i default) old new below
    (get_or_default xs i default (get_or xs i default) below)

pub index_whole : {X : Type 0} (name : X → List ℕ) (xs : List X) (i : ℕ) (at : List ℕ → Option ℕ) → length xs ≤ i
    → ((q : List ℕ) → at q ≡ position_from (λ y. bytes_eq (name y) q) 0 (take i xs)) → (q : List ℕ)
    → at q ≡ position_from (λ y. bytes_eq (name y) q) 0 xs
index_whole {X} name xs i at past before q =
    before q ∙ ap (λ (l : List X). position_from (λ y. bytes_eq (name y) q) 0 l) (take_all i xs past)

-- ---- names that are the same but for dashes

pub same_names : (xs ys : List ℕ) → length xs ≡ length ys
    → ((k : ℕ) → k < length xs
    → cond (get_or xs k 0 == 45) 95 (get_or xs k 0) ≡ cond (get_or ys k 0 == 45) 95 (get_or ys k 0))
    → AreSame xs ys
same_names xs ys count each =
    ext_get_or 0 (underscored xs) (underscored ys)
    (length-map xs (λ b. cond (b == 45) 95 b) ∙ count ∙ sym (length-map ys (λ b. cond (b == 45) 95 b)))
    (λ k below.
    let inside : k < length xs = omega (arith, below, length-map xs (λ b. cond (b == 45) 95 b)) in
    let other : k < length ys = omega (arith, inside, count) in
    get_or-map (λ b. cond (b == 45) 95 b) xs k 0 0 inside ∙ each k inside
    ∙ sym (get_or-map (λ b. cond (b == 45) 95 b) ys k 0 0 other))

pub same_counts : (xs ys : List ℕ) → AreSame xs ys → length xs ≡ length ys
same_counts xs ys same =
    sym (length-map xs (λ b. cond (b == 45) 95 b)) ∙ ap length same ∙ length-map ys (λ b. cond (b == 45) 95 b)

pub same_each : (xs ys : List ℕ) (k : ℕ) → k < length xs → AreSame xs ys
    → cond (get_or xs k 0 == 45) 95 (get_or xs k 0) ≡ cond (get_or ys k 0 == 45) 95 (get_or ys k 0)
same_each xs ys k below same =
    let other : k < length ys = omega (arith, below, same_counts xs ys same) in
    sym (get_or-map (λ b. cond (b == 45) 95 b) xs k 0 0 below)
    ∙ ap (λ (l : List ℕ). get_or l k 0) same
    ∙ get_or-map (λ b. cond (b == 45) 95 b) ys k 0 0 other
