-- The list of a queue without its first node.
use Rattle.std.proofs.Common.{[], ◌++◌, refl, length-set, ◌≡◌, ℕ, zero, suc, ◌<◌, Bool, true, false, List, ◌∷◌}
use Rattle.std.proofs.Common.{length, get_or, set, sym, ◌∙◌}
use Rattle.std.proofs.Common.{[], ◌++◌, refl, length-set, subst, arith, inl, inr}
use Rattle.std.proofs.Common.{get_or-set_other, get_or-set_same}
use Rattle.std.proofs.lemmas.Bool.{cases_eq, cases_lt, false≢true}
use Rattle.std.proofs.lemmas.List.{length_push, get_or_push, get_or_append_left}
use Rattle.std.proofs.lemmas.List.Elements.{All-push, Contains-push, Contains-append_left}
use Rattle.package_graphs.specs.Inside.Spreading.{IsList}
use Rattle.std.proofs.lemmas.List.Elements.{All-head, All-tail}
use Rattle.std.specs.Prelude.{Contains, All}

in_tail : (node : ℕ) (rest : List ℕ) (n : ℕ) → Contains (node ∷ rest) n → (n ≡ node → ⊥) → Contains rest n
in_tail node rest n (zero, below, is) other = absurd (other (sym is))
in_tail node rest n (suc k, below, is) other = (k, omega (arith, below), is)

-- who still waits, after the first does not, is in the rest of the list
pub in_rest : (waiting : List Bool) (nodes rest : List ℕ) (node : ℕ) → node < length waiting → nodes ≡ node ∷ rest
    → ((n : ℕ) → get_or waiting n false ≡ true → Contains nodes n)
    → (n : ℕ) → get_or (set waiting node false) n false ≡ true → Contains rest n
in_rest waiting nodes rest node known is listed n h =
    elim (cases_eq n node) as (λ _. Contains rest n) [
      | inl same ↦
          let e : get_or (set waiting node false) n false ≡ false =
          rw same (get_or-set_same waiting node false false known) in
          absurd (false≢true (sym e ∙ h))
      | inr other ↦
          let was = listed n (sym (get_or-set_other waiting node n false false other) ∙ h) in
          in_tail node rest n (subst (λ (xs : List ℕ). Contains xs n) is was) other
    ]

pub known_rest : (count : ℕ) (nodes rest : List ℕ) (node : ℕ) → nodes ≡ node ∷ rest → All (λ n. n < count) nodes
    → All (λ n. n < count) rest
known_rest count nodes rest node is known =
    All-tail (λ n. n < count) node rest (subst (λ (xs : List ℕ). All (λ n. n < count) xs) is known)

pub known_first : (count : ℕ) (nodes rest : List ℕ) (node : ℕ) → nodes ≡ node ∷ rest → All (λ n. n < count) nodes
    → node < count
known_first count nodes rest node is known =
    All-head (λ n. n < count) node rest (subst (λ (xs : List ℕ). All (λ n. n < count) xs) is known)

-- ---- the whole list

still_known : (waiting : List Bool) (node : ℕ) (b : Bool) (nodes : List ℕ) → All (λ n. n < length waiting) nodes
    → All (λ n. n < length (set waiting node b)) nodes
still_known waiting node b nodes known =
    subst (λ (count : ℕ). All (λ n. n < count) nodes) (sym (length-set waiting node b)) known

pub popped : (waiting : List Bool) (node : ℕ) (rest : List ℕ) → IsList waiting (node ∷ rest)
    → IsList (set waiting node false) rest
popped waiting node rest is =
    let inside : node < length waiting = known_first (length waiting) (node ∷ rest) rest node refl is.known in
    record {
      known = still_known waiting node false rest (known_rest (length waiting) (node ∷ rest) rest node refl is.known);
      listed = in_rest waiting (node ∷ rest) rest node inside refl is.listed;
      flagged = λ i below.
          let apart : get_or rest i 0 ≡ node → ⊥ =
          λ same. let e : suc i ≡ 0 = is.once (suc i) 0 (omega arith) (omega arith) same in absurd (omega arith) in
          get_or-set_other waiting node (get_or rest i 0) false false apart ∙ is.flagged (suc i) (omega arith);
      once = λ i j below under same.
          let e : suc i ≡ suc j = is.once (suc i) (suc j) (omega arith) (omega arith) same in
          omega (arith, e);
    }

pub was_waiting : (waiting : List Bool) (nodes rest : List ℕ) (node : ℕ) → nodes ≡ node ∷ rest → IsList waiting nodes
    → get_or waiting node false ≡ true
was_waiting waiting nodes rest node is list =
    let l = subst (λ (xs : List ℕ). IsList waiting xs) is list in
    l.flagged 0 (omega arith)

pub pushed : (waiting : List Bool) (nodes : List ℕ) (node : ℕ) → node < length waiting
    → get_or waiting node false ≡ false → IsList waiting nodes → IsList (set waiting node true) (nodes ++ node ∷ [])
pushed waiting nodes node inside rests is =
    let here : get_or (set waiting node true) node false ≡ true = get_or-set_same waiting node true false inside in
    let last : (i : ℕ) → i ≡ length nodes → get_or (nodes ++ node ∷ []) i 0 ≡ node =
    λ i end. get_or_push nodes node 0 i (sym end) in
    let before : (i : ℕ) → i < length nodes → get_or (nodes ++ node ∷ []) i 0 ≡ get_or nodes i 0 =
    λ i below. get_or_append_left nodes (node ∷ []) 0 i below in
    let apart : (i : ℕ) → i < length nodes → get_or nodes i 0 ≡ node → ⊥ =
    λ i below same.
    let on = is.flagged i below in
    let on_node = subst (λ (x : ℕ). get_or waiting x false ≡ true) same on in
    false≢true (sym rests ∙ on_node) in
    record {
      known = still_known waiting node true (nodes ++ node ∷ [])
          (All-push (λ n. n < length waiting) nodes node is.known inside);
      listed = λ n h.
          elim (cases_eq n node) as (λ _. Contains (nodes ++ node ∷ []) n) [
            | inl same ↦ rw same (Contains-push nodes node)
            | inr other ↦
                Contains-append_left nodes (node ∷ []) n
                (is.listed n (sym (get_or-set_other waiting node n true false other) ∙ h))
          ];
      flagged = λ i below.
          elim (cases_lt i (length nodes))
          as (λ _. get_or (set waiting node true) (get_or (nodes ++ node ∷ []) i 0) false ≡ true) [
            | inl low ↦
                rw (before i low)
                (get_or-set_other waiting node (get_or nodes i 0) true false (apart i low) ∙ is.flagged i low)
            | inr high ↦
                let end : i ≡ length nodes = let long = length_push nodes node in omega (arith, long, high, below) in
                rw (last i end) here
          ];
      once = λ i j below under same.
          let long = length_push nodes node in
          elim (cases_lt i (length nodes)) as (λ _. i ≡ j) [
            | inl low ↦
                elim (cases_lt j (length nodes)) as (λ _. i ≡ j) [
                  | inl under_low ↦ is.once i j low under_low (sym (before i low) ∙ same ∙ before j under_low)
                  | inr high ↦
                      let end : j ≡ length nodes = omega (arith, long, high, under) in
                      absurd (apart i low (sym (before i low) ∙ same ∙ last j end))
                ]
            | inr high ↦
                let end : i ≡ length nodes = omega (arith, long, high, below) in
                elim (cases_lt j (length nodes)) as (λ _. i ≡ j) [
                  | inl low ↦ absurd (apart j low (sym (before j low) ∙ sym same ∙ last i end))
                  | inr high_too ↦ omega (arith, long, end, high_too, under)
                ]
          ];
    }
