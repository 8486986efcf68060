use Rattle.std.proofs.Common.{ℕ, ◌≡◌, ◌<◌, length, ◌||◌, ◌&&◌, ◌==◌, ◌+◌, ◌≤◌, true, false, Bool, set}
use Rattle.std.proofs.Common.{refl, sym, ◌∙◌}
use Rattle.std.proofs.Common.{ap, inl, inr, arith}
use Rattle.std.proofs.lemmas.Bool.{cases_eq, or_parts, or_left, eq-eqb, ne_eqb, eqb-false, false≢true}
use Rattle.std.proofs.lemmas.List.Sums.{sum_by-set}
use Rattle.known_targets.specs.Sets.{is_member}
use Rattle.known_targets.specs.declared.table.TheConstants.{COUNT}
use Rattle.package_graphs.specs.Graphs.{is_in}
use Rattle.package_graphs.specs.Inside.Spreading.{lacking, waits}
use Rattle.package_graphs.proofs.Lacking.{lacking_less}
use Rattle.package_graphs.proofs.SetLists.{is_in_read, is_in_same, is_in_other}
use Rattle.package_graphs.proofs.presence.add.Goals as goal

or_none : (a b c : _) → b ≡ false → a ≡ (a || (b && c))
or_none true false c h = refl
or_none false false c h = refl
or_none a true c h = absurd (false≢true (sym h))

or_both : (a b c : _) → b ≡ true → (a || c) ≡ (a || (b && c))
or_both a true c h = refl
or_both a false c h = absurd (false≢true h)

pub returns-in_ok-add-clause-sets : goal.returns-in_ok-add-clause-sets
returns-in_ok-add-clause-sets c n k below =
    let sets = c.args.sets.now.items in
    let node = c.args.node in
    let more = is_member c.args.more k in
    let fits : node < length sets = omega (arith, c.requires.known, c.args.sets.now.ok.0) in
    elim (cases_eq n node)
    as (λ _. is_in (set sets node c.union-all.result) n k ≡ (is_in sets n k || ((n == node) && more))) [
      | inl same ↦
          rw same (is_in_same sets node c.union-all.result k fits
          ∙ c.union-all.ensures k below
          ∙ ap (λ (b : Bool). b || more) (sym (is_in_read sets node c.index-old.result.now k fits c.index-old.ensures))
          ∙ or_both (is_in sets node k) (node == node) more (eq-eqb node node refl))
      | inr other ↦
          is_in_other sets node c.union-all.result n k other
          ∙ or_none (is_in sets n k) (n == node) more (ne_eqb n node other)
    ]

pub returns-in_ok-add-clause-same : goal.returns-in_ok-add-clause-same
returns-in_ok-add-clause-same c n k below rests =
    let waits = or_parts (n == c.args.node) _ (sym (c.in_ok-add.ensures.waits n) ∙ rests) in
    is_in_other c.args.sets.now.items c.args.node c.union-all.result n k (eqb-false n c.args.node waits.0)

pub returns-in_ok-add-clause-work : goal.returns-in_ok-add-clause-work
returns-in_ok-add-clause-work c =
    let sets = c.args.sets.now.items in
    let node = c.args.node in
    let fits : node < length sets = omega (arith, c.requires.known, c.args.sets.now.ok.0) in
    let old = c.index-old.result.now in
    let all = c.union-all.result in
    let less : lacking all + 1 ≤ lacking old =
    lacking_less COUNT (is_member old) (is_member all)
    (λ k below h. c.union-all.ensures k below ∙ or_left _ _ h)
    (λ same. false≢true (c.if-not-equals.ensures.no same)) in
    let sum = sum_by-set lacking sets node all old fits in
    let at = ap lacking c.index-old.ensures in
    omega (arith, less, sum, at, c.in_ok-add.ensures.work)
