-- What is carried along edges stays carried while sets grow.
use Rattle.std.proofs.Common.{◌≡◌, ℕ, ◌+◌, ◌<◌, ◌≤◌, Bool, true, ◌&&◌, ◌||◌, ◌==◌, List, [], length, get_or, refl}
use Rattle.std.proofs.Common.{sym, ◌∙◌, ap, subst}
use Rattle.std.proofs.Common.{inl, inr, arith, below_more}
use Rattle.std.proofs.lemmas.Bool.{or_cases, and_parts, eqb-true}
use Rattle.std.proofs.lemmas.List.{get_or_default}
use Rattle.known_targets.specs.Sets.{is_member}
use Rattle.known_targets.specs.declared.table.TheConstants.{COUNT}
use Rattle.package_graphs.specs.Reaching.{goes_on}
use Rattle.package_graphs.specs.Graphs.{edges_from, IsPresent}
use Rattle.package_graphs.specs.Inside.Spreading.{IsCarried, AreCarried, AreSound}
use Rattle.package_graphs.specs.declared.graph.Edge.{Edge}

abbrev Grown : (ℕ → ℕ → Bool) → (ℕ → ℕ → Bool) → Type 0
Grown at new = (n k : ℕ) → k < COUNT → at n k ≡ true → new n k ≡ true

abbrev Same : (ℕ → ℕ → Bool) → (ℕ → ℕ → Bool) → ℕ → Type 0
Same at new m = (k : ℕ) → k < COUNT → new m k ≡ at m k

pub carried_kept : (graph : List (List Edge)) (at new : ℕ → ℕ → Bool) (m many : ℕ) → Grown at new → Same at new m
    → AreCarried graph at m many → AreCarried graph new m many
carried_kept graph at new m many grown same h j below d inside k known end here holds =
    grown _ k known (h j below d inside k known end (sym (same k known) ∙ here) holds)

-- one more edge is visited
pub carried_more : (graph : List (List Edge)) (at new : ℕ → ℕ → Bool) (m i : ℕ) (edge : Edge) → Grown at new
    → Same at new m → ((d : Edge) → edge ≡ get_or (edges_from graph m) i d)
    → AreCarried graph at m i → IsCarried (length graph) new m edge → AreCarried graph new m (i + 1)
carried_more graph at new m i edge grown same is h this =
    below_more (λ j. (d : Edge) → j < length (edges_from graph m)
    → IsCarried (length graph) new m (get_or (edges_from graph m) j d)) i
    (carried_kept graph at new m i grown same h)
    (λ d inside. subst (λ (e : Edge). IsCarried (length graph) new m e) (is d) this)

-- an edge whose end is no node
pub carried_past : (graph : List (List Edge)) (at : ℕ → ℕ → Bool) (m : ℕ) (edge : Edge) → length graph ≤ edge.to
    → IsCarried (length graph) at m edge
carried_past graph at m edge past k known end here holds = absurd (omega arith)

-- what is added to the set of a node is told of it
pub sound_more : (graph : List (List Edge)) (roots : List ℕ) (at new : ℕ → ℕ → Bool) (node : ℕ) (more : ℕ → Bool)
    → ((n k : ℕ) → k < COUNT → new n k ≡ (at n k || ((n == node) && more k)))
    → ((k : ℕ) → k < COUNT → more k ≡ true → IsPresent graph roots k node)
    → AreSound graph roots at → AreSound graph roots new
sound_more graph roots at new node more is added h n k known here =
    elim (or_cases (at n k) ((n == node) && more k) (sym (is n k known) ∙ here))
    as (λ _. IsPresent graph roots k n) [
      | inl old ↦ h n k known old
      | inr fresh ↦
          let parts = and_parts (n == node) (more k) fresh in
          let e : node ≡ n = sym (eqb-true n node parts.0) in
          subst (λ (x : ℕ). IsPresent graph roots k x) e (added k known parts.1)
    ]

-- an edge leads on from where its node is there
pub along : (graph : List (List Edge)) (roots : List ℕ) (at : ℕ → ℕ → Bool) (m i : ℕ) (edge : Edge)
    → i < length (edges_from graph m) → ((d : Edge) → edge ≡ get_or (edges_from graph m) i d)
    → AreSound graph roots at → (k : ℕ) → k < COUNT → at m k ≡ true → is_member edge.holds k ≡ true
    → IsPresent graph roots k edge.to
along graph roots at m i edge inside is h k known here holds =
    goes_on m edge.to (h m k known here) (record {
      edge = edge;
      begins = (i, inside, sym (is edge));
      ends = refl;
      holds = holds;
    })

-- an edge that was read, at any default
pub read_edge : (es fs : List Edge) (i : ℕ) (e d : Edge) → es ≡ fs → i < length es → get_or es i e ≡ get_or fs i d
read_edge es fs i e d same below = get_or_default es i e d below ∙ ap (λ (xs : List Edge). get_or xs i d) same

-- the default where nothing was read
abbrev pub no_edge : Edge
no_edge = record { to = 0; holds = record { words = [] } }
