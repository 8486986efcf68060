use Rattle.std.proofs.Common.{Bool, not, ◌&&◌, subst, inl, inr, ◌≡◌, ◌<◌, ℕ, true, false, ◌==◌}
use Rattle.std.proofs.Common.{List, length, get_or, vec_len, refl, sym, ◌∙◌, ap}
use Rattle.std.proofs.Common.{below_more, rules, arith}
use Rattle.std.proofs.lemmas.Bool.{false≢true, or_left, or_right, and_from, eq-eqb, ne_eqb, cases_eq}
use Rattle.std.proofs.lemmas.List.{get_or_default}
use Rattle.known_targets.specs.Sets.{is_member}
use Rattle.known_targets.specs.declared.target_set.TargetSet.{TargetSet}
use Rattle.package_graphs.specs.Reaching.{starts}
use Rattle.package_graphs.proofs.Carried.{sound_more, carried_kept}
use Rattle.known_targets.specs.declared.table.TheConstants.{COUNT}
use Rattle.package_graphs.specs.Graphs.{edge_lists, edges_from, is_in}
use Rattle.package_graphs.specs.Inside.Spreading.{waits, AreCarried}
use Rattle.package_graphs.proofs.SetLists.{is_in_none}
use Rattle.package_graphs.proofs.Complete.{by_place, complete}
use Rattle.package_graphs.proofs.presence.reached_targets.Goals as goal

pub roots-init : goal.roots-init
roots-init c =
    let empty : (n k : ℕ) → is_in c.in_ok-sets.sets.items n k ≡ false =
    λ n k.
    ap (λ (xs : List TargetSet). is_in xs n k) (c.in_ok-sets.ensures.items_if_clones_equal (λ y same. same))
    ∙ is_in_none c.len.result c.none.result n k (c.none.ensures k) in
    record {
      queue = c.in_ok-queue.ensures.queue;
      nodes = search rules;
      count = search rules;
      rooted = λ i below. absurd (omega arith);
      resting = λ n k known rests. empty n k;
      sound = λ n k known h. absurd (false≢true (sym (empty n k) ∙ h));
    }

pub returns-clause-exact : goal.returns-clause-exact
returns-clause-exact c n k inside known = (
  c.nodes.invariant.sound n k known,
  λ h. complete (edge_lists c.args.graph.now) c.args.roots.now (is_in c.nodes.sets.items) k known
      (by_place c.args.roots.now
      (λ root. root < length (edge_lists c.args.graph.now) → is_in c.nodes.sets.items root k ≡ true)
      (λ i below fits. c.nodes.invariant.rooted i below (omega (arith, fits, c.nodes.invariant.count)) k known))
      (λ m. c.nodes.invariant.carried m (c.in_default.ensures.none m))
      n h inside,
)

pub roots-preserved : goal.roots-preserved
roots-preserved c =
    let graph = edge_lists c.args.graph.now in
    let roots = c.args.roots.now in
    let at = is_in c.roots.sets.items in
    let new = is_in c.add.new.sets.items in
    let i = c.roots.root-index in
    let root = get_or roots i 0 in
    record {
      queue = c.in_ok-add.ensures.queue;
      nodes = c.in_ok-add.ensures.nodes ∙ c.roots.invariant.nodes ∙ sym c.in_ok-add.ensures.count;
      count = c.in_ok-add.ensures.count ∙ c.roots.invariant.count;
      rooted =
          below_more (λ j. get_or roots j 0 < vec_len c.add.new.sets → (k : ℕ) → k < COUNT
          → new (get_or roots j 0) k ≡ true) i
          (λ j below fits k known.
          let fitted : get_or roots j 0 < vec_len c.roots.sets = omega (arith, fits, c.in_ok-add.ensures.count) in
          c.in_ok-add.ensures.sets (get_or roots j 0) k known
          ∙ or_left _ _ (c.roots.invariant.rooted j below fitted k known))
          (λ fits k known.
          c.in_ok-add.ensures.sets root k known
          ∙ or_right (at root k) _ (and_from (root == root) _ (eq-eqb root root refl) (c.all.ensures k known)));
      resting = λ n k known rests. c.in_ok-add.ensures.same n k known rests
          ∙ c.roots.invariant.resting n k known (c.in_ok-add.ensures.waited n rests);
      sound =
          sound_more graph roots at new root (is_member c.all.result) c.in_ok-add.ensures.sets
          (λ k known more. starts root (i, c.roots-test.true, get_or_default roots i root 0 c.roots-test.true))
          c.roots.invariant.sound;
    }

pub nodes-init : goal.nodes-init
nodes-init c =
    let old = c.roots.invariant in
    record {
      queue = old.queue;
      nodes = old.nodes;
      count = old.count;
      rooted = λ i below fits k known. old.rooted i (omega (arith, below, c.roots-test.false)) fits k known;
      carried = λ m rests j below d inside k known end here holds.
          absurd (false≢true (sym (old.resting m k known rests) ∙ here));
      sound = old.sound;
    }

pub nodes-preserved : goal.nodes-preserved
nodes-preserved c =
    let graph = edge_lists c.args.graph.now in
    let old = c.nodes.invariant in
    let now = c.in_ok-go_over.ensures in
    let node = c.in-Some.node in
    let at = is_in c.nodes.sets.items in
    let new = is_in c.go_over.new.sets.items in
    let other_waits : (n : ℕ) → (n ≡ node → ⊥) → waits c.next.new.self n ≡ waits c.nodes.queue n =
    λ n other.
    c.in-Some.ensures.waits n ∙ ap (λ (b : Bool). not b && waits c.nodes.queue n) (ne_eqb n node other) in
    record {
      queue = now.queue;
      nodes = now.nodes ∙ c.in-Some.ensures.count ∙ old.nodes ∙ sym now.count;
      count = now.count ∙ old.count;
      rooted = λ i below fits k known.
          let fitted : get_or c.args.roots.now i 0 < vec_len c.nodes.sets = omega (arith, fits, now.count) in
          now.grown (get_or c.args.roots.now i 0) k known (old.rooted i below fitted k known);
      carried = λ m rests.
          elim (cases_eq m node) as (λ _. AreCarried graph new m (length (edges_from graph m))) [
            | inl same ↦
                subst (λ (x : ℕ). AreCarried graph new x (length (edges_from graph x))) (sym same)
                (now.carried (subst (λ (x : ℕ). waits c.go_over.new.queue x ≡ false) same rests))
            | inr other ↦
                carried_kept graph at new m (length (edges_from graph m)) (λ n k known h. now.grown n k known h)
                (λ k known. now.same m k known rests)
                (old.carried m (sym (other_waits m other) ∙ now.waited m rests))
          ];
      sound = now.sound c.args.roots.now old.sound;
    }
