-- Rows that a search finds or passes over.
use Rattle.std.proofs.Common.{◌≡◌, ◌≢◌, ℕ, zero, suc, ◌<◌, List, [], ◌∷◌, map, length, get_or, Contains, Bor, refl, ap}
use Rattle.std.proofs.Common.{◌∙◌, sym, subst, suc-le-suc, le_of_suc-le-suc, not-suc-le-zero, zero-lt-suc}
use Rattle.std.proofs.Common.{Bool, true, false, true≢false, bytes_eq}
use Rattle.std.proofs.lemmas.Slice.Eq.{bytes_eq-Decides}
use Rattle.former_names.specs.declared.rows.RemovalReleases.{RemovalReleases}
use Rattle.former_names.specs.Rows.{Numbers, targets_of, facts_of, renamed_of, numbers_of}
use Rattle.former_names.specs.Rows.{HasTarget, HasPair, IsRenamed}

-- what f makes of an element is among what it makes of all
is_made : {X Y : Type 0} (f : X → Y) (xs : List X) (k : ℕ) (d : X) (y : Y) → k < length xs → f (get_or xs k d) ≡ y
    → Contains (map f xs) y
is_made f [] k d y l e = absurd (not-suc-le-zero l)
is_made f (x ∷ xs) zero d y l e = (0, zero-lt-suc _, e)
is_made f (x ∷ xs) (suc k) d y l e =
    let r = is_made f xs k d y (le_of_suc-le-suc l) e in (suc r.0, suc-le-suc r.1, r.2)

-- and each of these is made of an element
made_at : {X Y : Type 0} (f : X → Y) (xs : List X) (k : ℕ) (d : X) (y : Y) → k < length (map f xs)
    → get_or (map f xs) k y ≡ y → (k < length xs) × (f (get_or xs k d) ≡ y)
made_at f [] k d y l e = absurd (not-suc-le-zero l)
made_at f (x ∷ xs) zero d y l e = (zero-lt-suc _, e)
made_at f (x ∷ xs) (suc k) d y l e =
    let r = made_at f xs k d y (le_of_suc-le-suc l) e in (suc-le-suc r.0, r.1)

-- an element is the same whatever stands for one that is not there
same_at : {X : Type 0} (xs : List X) (k : ℕ) (d e : X) → k < length xs → get_or xs k e ≡ get_or xs k d
same_at [] k d e l = absurd (not-suc-le-zero l)
same_at (x ∷ xs) zero d e l = refl
same_at (x ∷ xs) (suc k) d e l = same_at xs k d e (le_of_suc-le-suc l)

-- what no element makes is not among what is made
not_made : {X Y : Type 0} (f : X → Y) (xs : List X) (y : Y)
    → ((k : ℕ) → k < length xs → (d : X) → f (get_or xs k d) ≡ y → ⊥) → Contains (map f xs) y → ⊥
not_made f [] y none has = not-suc-le-zero has.1
not_made f (x ∷ xs) y none has =
    let m = made_at f (x ∷ xs) has.0 x y has.1 has.2 in none has.0 m.0 x m.1

abbrev TargetRow : Type 0
TargetRow = Bor (List ℕ) × Numbers × Numbers

abbrev FactRow : Type 0
FactRow = Bor (List ℕ) × Bor (List ℕ) × Numbers × Numbers

abbrev RenamedRow : Type 0
RenamedRow = Bor (List ℕ) × Bor (List ℕ)

pub is_target : (rows : List TargetRow) (name : List ℕ) (k : ℕ) (d : TargetRow) (b : RemovalReleases) → k < length rows
    → (get_or rows k d).0.now ≡ name → numbers_of b.last ≡ (get_or rows k d).1
    → numbers_of b.gone ≡ (get_or rows k d).2 → HasTarget (targets_of rows) name b
is_target rows name k d b l is last gone =
    is_made (λ r. (r.0.now, r.1, r.2)) rows k d (name, numbers_of b.last, numbers_of b.gone) l
    (λ i. (is i, sym last i, sym gone i))

pub no_target : (rows : List TargetRow) (name : List ℕ)
    → ((k : ℕ) → k < length rows → (d : TargetRow) → (get_or rows k d).0.now ≢ name)
    → (b : RemovalReleases) → HasTarget (targets_of rows) name b → ⊥
no_target rows name none b has =
    not_made (λ r. (r.0.now, r.1, r.2)) rows (name, numbers_of b.last, numbers_of b.gone)
    (λ k l d e. none k l d (ap (λ y. y.0) e)) has

pub is_fact : (rows : List FactRow) (key value : List ℕ) (k : ℕ) (d : FactRow) (b : RemovalReleases) → k < length rows
    → (get_or rows k d).0.now ≡ key → (get_or rows k d).1.now ≡ value → numbers_of b.last ≡ (get_or rows k d).2
    → numbers_of b.gone ≡ (get_or rows k d).3 → HasPair (facts_of rows) key value b
is_fact rows key value k d b l is with last gone =
    is_made (λ r. (r.0.now, r.1.now, r.2, r.3)) rows k d (key, value, numbers_of b.last, numbers_of b.gone) l
    (λ i. (is i, with i, sym last i, sym gone i))

pub no_fact : (rows : List FactRow) (key value : List ℕ)
    → ((k : ℕ) → k < length rows → (d : FactRow) → (get_or rows k d).0.now ≡ key → (get_or rows k d).1.now ≢ value)
    → (b : RemovalReleases) → HasPair (facts_of rows) key value b → ⊥
no_fact rows key value none b has =
    not_made (λ r. (r.0.now, r.1.now, r.2, r.3)) rows (key, value, numbers_of b.last, numbers_of b.gone)
    (λ k l d e. none k l d (ap (λ y. y.0) e) (ap (λ y. y.1) e)) has

pub is_renamed : (rows : List RenamedRow) (name : List ℕ) (k : ℕ) (d : RenamedRow) → k < length rows
    → (get_or rows k d).0.now ≡ name → IsRenamed (renamed_of rows) name (get_or rows k d).1.now
is_renamed rows name k d l is =
    is_made (λ r. (r.0.now, r.1.now)) rows k d (name, (get_or rows k d).1.now) l
    (λ i. (is i, (get_or rows k d).1.now))

pub not_renamed : (rows : List RenamedRow) (name : List ℕ)
    → ((k : ℕ) → k < length rows → (d : RenamedRow) → (get_or rows k d).0.now ≢ name)
    → (now : List ℕ) → IsRenamed (renamed_of rows) name now → ⊥
not_renamed rows name none now has =
    not_made (λ r. (r.0.now, r.1.now)) rows (name, now) (λ k l d e. none k l d (ap (λ y. y.0) e)) has

-- where a test that compares two texts is passed, they are the same
pub same_text : (test : Bool) (a b : List ℕ) → test ≡ bytes_eq a b → test ≡ true → a ≡ b
same_text test a b is so = (bytes_eq-Decides a b).0 (sym is ∙ so)

-- and where it is not, they differ
pub other_text : (test : Bool) (a b : List ℕ) → test ≡ bytes_eq a b → test ≡ false → a ≢ b
other_text test a b is failed same =
    absurd (true≢false (sym ((bytes_eq-Decides a b).1 same) ∙ sym is ∙ failed))

-- what holds of an element holds of it whatever stands for one that is not there
pub at_each : {X : Type 0} (P : X → Type 0) (xs : List X) (k : ℕ) (d : X) → k < length xs → P (get_or xs k d)
    → (e : X) → P (get_or xs k e)
at_each P xs k d l p e = subst P (sym (same_at xs k d e l)) p
