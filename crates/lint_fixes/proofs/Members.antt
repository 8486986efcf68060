-- The members of a table, by its entries.
use Rattle.std.proofs.Common.{◌≡◌, ℕ, List, [], ◌∷◌, ◌++◌, Option, Some, None, IsSome, Ordering, Less, Equal}
use Rattle.std.proofs.Common.{Greater, nat_cmp, is_eq, string_bytes, refl, sym, ap, ◌∙◌, subst}
use Rattle.std.proofs.lemmas.Cmp.{nat_list_cmp_total}
use Rattle.std.proofs.lemmas.Map.Text.{is_eq-slice_cmp}
use Rattle.std.proofs.lemmas.Slice.Eq.{bytes_eq-Decides}
use Rattle.std.specs.Cmp.{tied_itself}
use Rattle.std.specs.Cmp.Lexicographic.{slice_cmp}
use Rattle.std.specs.List.{AllByRecursion}
use Rattle.std.specs.Ordering.{match_ordering}
use Rattle.toml.specs.Data.{Data, get_member}
use Rattle.toml.specs.View.{view, members_view}
use Rattle.toml.proofs.Views.{Entry}

pub all_push : {X : Type 0} (P : X → Type 0) (xs : List X) (x : X) → AllByRecursion P xs → P x
    → AllByRecursion P (xs ++ x ∷ [])
all_push P [] x all here = (here, tt)
all_push P (y ∷ ys) x all here = (all.0, all_push P ys x all.1 here)

pub all_weaken : {X : Type 0} (P Q : X → Type 0) (xs : List X) → ((x : X) → P x → Q x) → AllByRecursion P xs
    → AllByRecursion Q xs
all_weaken P Q [] more all = tt
all_weaken P Q (y ∷ ys) more all = (more y all.0, all_weaken P Q ys more all.1)

-- two names that compare equal are the same
same_text : (k l : List ℕ) → slice_cmp nat_cmp k l ≡ Equal → k ≡ l
same_text k l h = (bytes_eq-Decides k l).0 (sym (is_eq-slice_cmp k l) ∙ ap is_eq h)

found_in : (P : List ℕ → Data → Type 0) (k l : List ℕ) (d v : Data) (o : Ordering) (rest : Option Data)
    → o ≡ slice_cmp nat_cmp k l
    → P l d → (rest ≡ Some v → P k v) → match_ordering o rest (Some d) rest ≡ Some v → P k v
found_in P k l d v Less rest e here there h = there h
found_in P k l d v Equal rest e here there h =
    let value : d ≡ v = cc in
    subst (λ x. P k x) value (subst (λ n. P n d) (sym (same_text k l (sym e))) here)
found_in P k l d v Greater rest e here there h = there h

-- what holds of each entry holds of the member that a name finds
pub all_members : (P : List ℕ → Data → Type 0) (es : List Entry) → AllByRecursion
    (λ e. P (string_bytes e.0) (view e.1)) es
    → (name : List ℕ) (v : Data) → get_member name (members_view es) ≡ Some v → P name v
all_members P [] all name v h = cc
all_members P (e ∷ es) all name v h = found_in P name (string_bytes e.0) (view e.1) v (slice_cmp nat_cmp name
    (string_bytes e.0)) _ refl all.0 (all_members P es all.1 name v) h

some_of : (o : Option Data) → IsSome o → (v : Data) × (o ≡ Some v)
some_of None h = cc
some_of (Some v) h = (v, refl)

-- what holds of the name of each entry holds of each name that finds a member
pub all_names : (P : List ℕ → Type 0) (es : List Entry) → AllByRecursion (λ e. P (string_bytes e.0)) es
    → (name : List ℕ) → IsSome (get_member name (members_view es)) → P name
all_names P es all name h =
    let some = some_of (get_member name (members_view es)) h in
    all_members (λ n v. P n) es all name some.0 some.1

some_after : (o : Ordering) (d : Data) (rest : Option Data) → IsSome rest → IsSome (match_ordering o rest (Some d) rest)
some_after Less d rest h = h
some_after Equal d rest h = refl
some_after Greater d rest h = h

-- the name of an entry finds a member
pub has_name : (done : List Entry) (e : Entry) (more : List Entry) → IsSome (get_member (string_bytes e.0)
    (members_view (done ++ e ∷ more)))
has_name [] e more = rw (tied_itself nat_list_cmp_total (string_bytes e.0)) refl
has_name (d ∷ done) e more = some_after (slice_cmp nat_cmp (string_bytes e.0) (string_bytes d.0)) (view d.1) _
    (has_name done e more)
