-- What the sets that holders mean have, for the answers of user-defined holders.
use Rattle.std.proofs.Common.{◌≡◌, ◌∙◌, refl, sym, ap, ℕ, Bool, true, false, ◌&&◌, ◌||◌, List, [], ◌∷◌, bytes_eq}
use Rattle.std.specs.declared.cmp.Ordering.{Ordering}
use Rattle.std.specs.declared.cmp.Ordering.TheVariants.{Less, Equal, Greater}
use Rattle.std.specs.Ordering.{ordering_then, is_eq, eq_by_cmp, nat_cmp}
use Rattle.std.specs.Cmp.Lexicographic.{slice_cmp}
use Rattle.std.specs.FinSet.{contains, union, contains-union, contains-from_list, contains-empty}
use Rattle.std.proofs.lemmas.Map.Text.{is_eq-slice_cmp}
use Rattle.std.proofs.lemmas.Slice.Eq.{bytes_eq-Decides}
use Rattle.std.proofs.lemmas.Bool.Decides.{same_from_decides}
use Rattle.std.specs.Prelude.{IsTrue, ◌↔◌}
use Rattle.cargo_platform.specs.Trees.{Name, CfgValue, Alone, KeyPair}
use Rattle.cargo_platform.specs.Facts.{Pair, FactSet, pair_of, pair_cmp}
use Rattle.cargo_platform.specs.Holders.{name_fact, pair_fact, no_facts, only, where_set, asks_name, asks_pair}
use Rattle.cargo_platform.proofs.FactSets.{pairs_total}

or_false : (a : Bool) → (a || false) ≡ a
or_false true = refl
or_false false = refl

and_true : (a : Bool) → (a && true) ≡ a
and_true true = refl
and_true false = refl

and_false : (a : Bool) → (a && false) ≡ false
and_false true = refl
and_false false = refl

then_both : (a b : Ordering) → is_eq (ordering_then a b) ≡ (is_eq a && is_eq b)
then_both Less b = refl
then_both Equal b = refl
then_both Greater b = refl

-- the empty set has no pair
pub in_none : (p : Pair) → contains no_facts p ≡ false
in_none p = contains-empty pair_cmp p

in_one : (q p : Pair) → contains (only q) p ≡ eq_by_cmp pair_cmp p q
in_one q p = contains-from_list pairs_total (q ∷ []) p ∙ or_false (eq_by_cmp pair_cmp p q)

-- a union has what either set has
pub in_both : (s t : FactSet) (p : Pair) → contains (union s t) p ≡ (contains s p || contains t p)
in_both s t p = contains-union pairs_total s t p

-- the set of one name has the pair of a value that tests for that name
pub in_name : (name : List ℕ) (c : CfgValue) → contains (only (name_fact name)) (pair_of c) ≡ asks_name name c
in_name name (Alone n) =
    in_one (name_fact name) (pair_of (Alone n)) ∙ then_both (slice_cmp nat_cmp n.name name) Equal ∙ and_true _
    ∙ is_eq-slice_cmp n.name name
in_name name (KeyPair k v) =
    in_one (name_fact name) (pair_of (KeyPair k v)) ∙ then_both (slice_cmp nat_cmp k.name name) Greater ∙ and_false _

-- the set of one key with its value has the pair of a value that tests for these
pub in_pair : (key value : List ℕ) (c : CfgValue)
    → contains (only (pair_fact key value)) (pair_of c) ≡ asks_pair key value c
in_pair key value (Alone n) =
    in_one (pair_fact key value) (pair_of (Alone n)) ∙ then_both (slice_cmp nat_cmp n.name key) Less ∙ and_false _
in_pair key value (KeyPair k v) =
    in_one (pair_fact key value) (pair_of (KeyPair k v))
    ∙ then_both (slice_cmp nat_cmp k.name key) (slice_cmp nat_cmp v value)
    ∙ (λ i. is_eq-slice_cmp k.name key i && is_eq-slice_cmp v value i)

-- a set that is under a flag has what the set has, where the flag is set
pub in_where_set : (flag : Bool) (s : FactSet) (p : Pair) → contains (where_set flag s) p ≡ (flag && contains s p)
in_where_set true s p = refl
in_where_set false s p = in_none p

-- ---- answers by `eq_text` and `==`, and by `&&`

-- a sought text is compared as text
pub texts_compared : (answer : Bool) (x y : List ℕ) → IsTrue answer ↔ (x ≡ y) → answer ≡ bytes_eq x y
texts_compared answer x y h = same_from_decides answer (bytes_eq x y) h (bytes_eq-Decides x y)

-- `&&` where the answer of its first part is known
pub first_known : (first second known answer : Bool) → first ≡ known → answer ≡ (known && second)
    → answer ≡ (first && second)
first_known first second known answer is h = h ∙ ap (λ b. b && second) (sym is)

pub and_assoc : (a b c : Bool) → ((a && b) && c) ≡ (a && (b && c))
and_assoc true b c = refl
and_assoc false b c = refl

-- ---- a holder of one name and one pair, each under a flag

abbrev said : Bool → Bool → List ℕ → List ℕ → List ℕ → CfgValue → Bool
said by_name by_pair name key value c = (by_name && asks_name name c) || (by_pair && asks_pair key value c)

-- the set of both
abbrev pub name_and_pair : Bool → Bool → List ℕ → List ℕ → List ℕ → FactSet
name_and_pair by_name by_pair name key value =
    union (where_set by_name (only (name_fact name))) (where_set by_pair (only (pair_fact key value)))

has : (by_name by_pair : Bool) (name key value : List ℕ) (c : CfgValue)
    → contains (name_and_pair by_name by_pair name key value) (pair_of c) ≡ said by_name by_pair name key value c
has by_name by_pair name key value c =
    let named = in_where_set by_name (only (name_fact name)) (pair_of c) ∙ ap (λ b. by_name && b) (in_name name c) in
    let paired = in_where_set by_pair (only (pair_fact key value)) (pair_of c)
    ∙ ap (λ b. by_pair && b) (in_pair key value c) in
    in_both (where_set by_name (only (name_fact name))) (where_set by_pair (only (pair_fact key value))) (pair_of c)
    ∙ (λ i. named i || paired i)

none_behind : (a b : Bool) → a ≡ (a || (b && false))
none_behind true b = refl
none_behind false true = refl
none_behind false false = refl

none_before : (a b : Bool) → b ≡ ((a && false) || b)
none_before true b = refl
none_before false b = refl

-- it answers a name by the first
pub of_name : (by_name by_pair : Bool) (name key value : List ℕ) (c : CfgValue) (n : Name) (answer : Bool)
    → c ≡ Alone n → answer ≡ (by_name && bytes_eq n.name name)
    → answer ≡ contains (name_and_pair by_name by_pair name key value) (pair_of c)
of_name by_name by_pair name key value c n answer is h =
    h ∙ none_behind _ by_pair ∙ sym (ap (said by_name by_pair name key value) is)
    ∙ sym (has by_name by_pair name key value c)

-- it answers a key with its value by the second
pub of_pair : (by_name by_pair : Bool) (name key value : List ℕ) (c : CfgValue) (k : Name) (v : List ℕ) (answer : Bool)
    → c ≡ KeyPair k v → answer ≡ (by_pair && (bytes_eq k.name key && bytes_eq v value))
    → answer ≡ contains (name_and_pair by_name by_pair name key value) (pair_of c)
of_pair by_name by_pair name key value c k v answer is h =
    h ∙ none_before by_name _ ∙ sym (ap (said by_name by_pair name key value) is)
    ∙ sym (has by_name by_pair name key value c)
