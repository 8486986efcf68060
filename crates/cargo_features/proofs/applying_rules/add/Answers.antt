use Rattle.std.proofs.Common.{ℕ, ◌≡◌, ◌<◌, List, ◌∷◌, ◌++◌, [], length, ◌||◌, ◌&&◌, ◌==◌, ◌+◌, ◌≤◌, ◌⊎◌, true, false}
use Rattle.std.proofs.Common.{Bool, set}
use Rattle.std.proofs.Common.{refl, sym, ◌∙◌, ap, subst, inl, inr, arith}
use Rattle.std.specs.Prelude.{All, Contains}
use Rattle.std.proofs.lemmas.Bool.{cases_eq, or_left, eq-eqb, ne_eqb, false≢true}
use Rattle.std.proofs.lemmas.List.Sums.{sum_by-set}
use Rattle.std.proofs.lemmas.List.Elements.{All-push, Contains-push, Contains-append_left}
use Rattle.known_targets.specs.Sets.{is_member}
use Rattle.known_targets.specs.declared.table.TheConstants.{COUNT}
use Rattle.package_graphs.specs.Graphs.{is_in}
use Rattle.package_graphs.specs.Inside.Spreading.{lacking}
use Rattle.package_graphs.proofs.Lacking.{lacking_less}
use Rattle.package_graphs.proofs.SetLists.{is_in_read, is_in_same, is_in_other}
use Rattle.cargo_features.specs.Inside.Working.{IsAsBefore}
use Rattle.cargo_features.proofs.applying_rules.add.Goals as goal

or_none : (a b c : _) → b ≡ false → a ≡ (a || (b && c))
or_none true false c h = refl
or_none false false c h = refl
or_none a true c h = absurd (false≢true (sym h))

or_both : (a b c : _) → b ≡ true → (a || c) ≡ (a || (b && c))
or_both a true c h = refl
or_both a false c h = absurd (false≢true h)

pub returns-in_ok-push_back-clause-sets : goal.returns-in_ok-push_back-clause-sets
returns-in_ok-push_back-clause-sets c n k below =
    let sets = c.args.sets.now.items in
    let fact = c.args.fact in
    let more = is_member c.args.more k in
    let fits : fact < length sets = omega (arith, c.requires, c.args.sets.now.ok.0) in
    elim (cases_eq n fact)
    as (λ _. is_in (set sets fact c.union-all.result) n k ≡ (is_in sets n k || ((n == fact) && more))) [
      | inl same ↦
          rw same (is_in_same sets fact c.union-all.result k fits
          ∙ c.union-all.ensures k below
          ∙ ap (λ (b : Bool). b || more) (sym (is_in_read sets fact c.index-old.result.now k fits c.index-old.ensures))
          ∙ or_both (is_in sets fact k) (fact == fact) more (eq-eqb fact fact refl))
      | inr other ↦
          is_in_other sets fact c.union-all.result n k other
          ∙ or_none (is_in sets n k) (n == fact) more (ne_eqb n fact other)
    ]

pub returns-in_ok-push_back-clause-known : goal.returns-in_ok-push_back-clause-known
returns-in_ok-push_back-clause-known c count inside all =
    subst (λ (xs : List ℕ). All (λ n. n < count) xs) (sym {A = List ℕ} c.in_ok-push_back.ensures.items)
    (All-push (λ n. n < count) c.args.waiting.now.items c.args.fact all inside)

pub returns-in_ok-push_back-clause-kept : goal.returns-in_ok-push_back-clause-kept
returns-in_ok-push_back-clause-kept c n is =
    subst (λ (xs : List ℕ). Contains xs n) (sym {A = List ℕ} c.in_ok-push_back.ensures.items)
    (Contains-append_left c.args.waiting.now.items (c.args.fact ∷ []) n is)

pub returns-in_ok-push_back-clause-waits : goal.returns-in_ok-push_back-clause-waits
returns-in_ok-push_back-clause-waits c n =
    let sets = c.args.sets.now.items in
    let fact = c.args.fact in
    elim (cases_eq n fact)
    as (λ _. Contains c.push_back.new.self.items n ⊎ IsAsBefore sets (set sets fact c.union-all.result) n) [
      | inl same ↦
          inl (rw same (subst (λ (xs : List ℕ). Contains xs fact) (sym {A = List ℕ} c.in_ok-push_back.ensures.items)
          (Contains-push c.args.waiting.now.items fact)))
      | inr other ↦ inr (λ k below. is_in_other sets fact c.union-all.result n k other)
    ]

pub returns-in_ok-push_back-clause-work : goal.returns-in_ok-push_back-clause-work
returns-in_ok-push_back-clause-work c =
    let sets = c.args.sets.now.items in
    let fact = c.args.fact in
    let fits : fact < length sets = omega (arith, c.requires, c.args.sets.now.ok.0) in
    let old = c.index-old.result.now in
    let all = c.union-all.result in
    let less : lacking all + 1 ≤ lacking old =
    lacking_less COUNT (is_member old) (is_member all)
    (λ k below h. c.union-all.ensures k below ∙ or_left _ _ h)
    (λ same. false≢true (c.if-not-equals.ensures.no same)) in
    let sum = sum_by-set lacking sets fact all old fits in
    let at = ap lacking c.index-old.ensures in
    omega (arith, less, sum, at, c.in_ok-push_back.ensures.len)
