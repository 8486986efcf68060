-- Sets that have the roots, and that each edge is carried over to, have all that is there.
use Rattle.std.proofs.Common.{◌≡◌, ℕ, ◌<◌, Bool, true, List, [], length, get_or, sym, ◌∙◌, subst}
use Rattle.std.proofs.Common.{inl, inr, arith}
use Rattle.std.proofs.lemmas.Bool.{cases_lt}
use Rattle.std.proofs.lemmas.List.{get_or_past, get_or_default}
use Rattle.std.specs.Prelude.{Contains}
use Rattle.known_targets.specs.Sets.{is_member}
use Rattle.known_targets.specs.declared.table.TheConstants.{COUNT}
use Rattle.package_graphs.specs.Reaching.{starts, goes_on}
use Rattle.package_graphs.specs.Graphs.{edges_from, IsPresent, LeadsAt}
use Rattle.package_graphs.specs.Inside.Spreading.{AreCarried}
use Rattle.package_graphs.specs.declared.graph.Edge.{Edge}

-- what each of the roots is, by their places
pub by_place : (roots : List ℕ) (P : ℕ → Type 0) → ((i : ℕ) → i < length roots → P (get_or roots i 0))
    → (root : ℕ) → Contains roots root → P root
by_place roots P h root (i, below, is) = subst P (get_or_default roots i 0 root below ∙ is) (h i below)

-- an edge begins at a node
begins_at_node : (graph : List (List Edge)) (m : ℕ) (e : Edge) → Contains (edges_from graph m) e → m < length graph
begins_at_node graph m e (j, below, is) =
    elim (cases_lt m (length graph)) as (λ _. m < length graph) [
      | inl inside ↦ inside
      | inr past ↦
          let none : edges_from graph m ≡ [] = get_or_past graph m [] past in
          let nowhere : j < 0 = subst (λ (es : List Edge). j < length es) none below in
          absurd (omega arith)
    ]

module _ (graph : List (List Edge)) (roots : List ℕ) (at : ℕ → ℕ → Bool) (k : ℕ) (known : k < COUNT)
    (rooted : (root : ℕ) → Contains roots root → root < length graph → at root k ≡ true)
    (carried : (m : ℕ) → AreCarried graph at m (length (edges_from graph m))) where
  over : (m n : ℕ) → LeadsAt graph k m n → n < length graph → (m < length graph → at m k ≡ true) → at n k ≡ true
  over m n leads inside here =
      let j = leads.begins.0 in
      let below : j < length (edges_from graph m) = leads.begins.1 in
      let is : get_or (edges_from graph m) j leads.edge ≡ leads.edge = leads.begins.2 in
      let end : leads.edge.to < length graph = subst (λ (x : ℕ). x < length graph) (sym leads.ends) inside in
      let at_m = here (begins_at_node graph m leads.edge leads.begins) in
      let c = carried m j below leads.edge below k known in
      let c' = subst (λ (e : Edge). e.to < length graph → at m k ≡ true → is_member e.holds k ≡ true
      → at e.to k ≡ true) is c in
      subst (λ (x : ℕ). at x k ≡ true) leads.ends (c' end at_m leads.holds)

  pub complete : (n : ℕ) → IsPresent graph roots k n → n < length graph → at n k ≡ true
  complete n (starts root is) inside = rooted root is inside
  complete n (goes_on m end here leads) inside = over m end leads inside (λ within. complete m here within)
