use Rattle.std.proofs.Common.{set, subst, inl, inr, ◌≡◌, ◌<◌, ◌⊎◌, ℕ, true, false}
use Rattle.std.proofs.Common.{List, [], ◌∷◌, length, get_or, vec_len, refl, sym, ◌∙◌, ap, arith}
use Rattle.std.specs.Prelude.{All, Contains}
use Rattle.std.proofs.lemmas.Bool.{false≢true, cases_eq}
use Rattle.known_targets.specs.declared.target_set.TargetSet.{TargetSet}
use Rattle.known_targets.specs.declared.table.TheConstants.{COUNT}
use Rattle.package_graphs.specs.Graphs.{is_in}
use Rattle.std.proofs.Common.{drop, length-drop}
use Rattle.package_graphs.proofs.SetLists.{is_in_none, is_in_read, is_in_same, is_in_other}
use Rattle.package_graphs.proofs.Waiting.{known_rest, known_first}
use Rattle.cargo_features.specs.Deriving.{given}
use Rattle.cargo_features.specs.Inside.Working.{IsAsBefore}
use Rattle.cargo_features.specs.Inside.Listing.{place_lists, IsListed}
use Rattle.cargo_features.proofs.Working.{in_tail, complete, applied_now, applied_listed, applied_all}
use Rattle.cargo_features.proofs.derivation.derive_targets.Goals as goal

pub facts-init : goal.facts-init
facts-init c =
    let empty : (n k : ℕ) → is_in c.in_ok-done.done.items n k ≡ false =
    λ n k.
    ap (λ (xs : List TargetSet). is_in xs n k) (c.in_ok-done.ensures.items_if_clones_equal (λ y same. same))
    ∙ is_in_none c.len-count.result c.none.result n k (c.none.ensures k) in
    record {
      sets = sym c.len-count.ensures;
      done = c.in_ok-done.ensures.len;
      known = c.in_ok-waiting.ensures.known;
      has = λ n k known here. here;
      within = λ n k known here. absurd (false≢true (sym (empty n k) ∙ here));
      waits = λ n below. inl (c.in_ok-waiting.ensures.all n below);
      applied = λ j below d k known inside first second holds.
          absurd (false≢true (sym (empty (get_or c.args.rules.now j d).first k) ∙ first));
      sound = λ n k known here. given n here;
    }

pub facts-preserved-then-equals : goal.facts-preserved-then-equals
facts-preserved-then-equals c =
    let old = c.facts.invariant in
    let fact = c.in-Some.fact in
    let queue : List ℕ = c.facts.waiting.items in
    let rest : List ℕ = c.pop_front.new.self.items in
    let items : queue ≡ fact ∷ rest = c.in-Some.ensures.items in
    let sets = c.facts.sets.items in
    let done = c.facts.done.items in
    let inside : fact < c.len-count.result = known_first c.len-count.result queue rest fact items old.known in
    let done_in : fact < length done = omega (arith, inside, old.done, c.facts.done.ok.0) in
    let sets_in : fact < length sets = omega (arith, inside, old.sets, c.facts.sets.ok.0) in
    let alike : IsAsBefore sets done fact =
    λ k below.
    is_in_read done fact c.index.result.now k done_in c.index.ensures
    ∙ c.if-equals.ensures.yes refl k below
    ∙ sym (is_in_read sets fact c.index-in-Some.result.now k sets_in c.index-in-Some.ensures) in
    record {
      sets = old.sets;
      done = old.done;
      known = known_rest c.len-count.result queue rest fact items old.known;
      has = old.has;
      within = old.within;
      waits = λ n below.
          elim (cases_eq n fact) as (λ _. Contains rest n ⊎ IsAsBefore sets done n) [
            | inl same ↦ inr (subst (λ (x : ℕ). IsAsBefore sets done x) (sym same) alike)
            | inr other ↦
                elim (old.waits n below) as (λ _. Contains rest n ⊎ IsAsBefore sets done n) [
                  | inl is ↦ inl (in_tail fact rest n (subst (λ (xs : List ℕ). Contains xs n) items is) other)
                  | inr as_before ↦ inr as_before
                ]
          ];
      applied = old.applied;
      sound = old.sound;
    }

pub facts-preserved : goal.facts-preserved
facts-preserved c =
    let old = c.facts.invariant in
    let end = c.in_ok-apply.ensures in
    let rules = c.args.rules.now in
    let fact = c.in-Some.fact in
    let queue : List ℕ = c.facts.waiting.items in
    let rest : List ℕ = c.pop_front.new.self.items in
    let items : queue ≡ fact ∷ rest = c.in-Some.ensures.items in
    let sets = c.facts.sets.items in
    let before = c.facts.done.items in
    let set_now : TargetSet = c.index-in-Some-2.result.now in
    let done = set before fact set_now in
    let now = c.apply.new.sets.items in
    let inside : fact < c.len-count.result = known_first c.len-count.result queue rest fact items old.known in
    let done_in : fact < length before = omega (arith, inside, old.done, c.facts.done.ok.0) in
    let sets_in : fact < length sets = omega (arith, inside, old.sets, c.facts.sets.ok.0) in
    let here : (k : ℕ) → is_in done fact k ≡ is_in sets fact k =
    λ k. is_in_same before fact set_now k done_in ∙ sym (is_in_read sets fact set_now k sets_in
    c.index-in-Some-2.ensures) in
    let there : (n k : ℕ) → (n ≡ fact → ⊥) → is_in done n k ≡ is_in before n k =
    λ n k other. is_in_other before fact set_now n k other in
    let within : (n k : ℕ) → k < COUNT → is_in done n k ≡ true → is_in sets n k ≡ true =
    λ n k known h.
    elim (cases_eq n fact) as (λ _. is_in sets n k ≡ true) [
      | inl same ↦
          subst (λ (x : ℕ). is_in sets x k ≡ true) (sym same)
          (sym (here k) ∙ subst (λ (x : ℕ). is_in done x k ≡ true) same h)
      | inr other ↦ old.within n k known (sym (there n k other) ∙ h)
    ] in
    let same : length now ≡ length sets = omega (arith, end.count, c.apply.new.sets.ok.0, c.facts.sets.ok.0) in
    let lists = place_lists c.in_ok-premises.premises in
    let listed : (f j : ℕ) → f ≡ fact → IsListed lists f j → Contains c.at.result.now j =
    λ f j e is.
    subst (λ (xs : List ℕ). Contains xs j) (sym c.at.ensures)
    (subst (λ (x : ℕ). Contains (get_or lists x []) j) e
    (is (omega (arith, inside, e, c.in_ok-premises.ensures.count)))) in
    record {
      sets = end.count ∙ old.sets;
      done = old.done;
      known = subst (λ (x : ℕ). All (λ n. n < x) c.apply.new.waiting.items) old.sets
          (end.known (subst (λ (x : ℕ). All (λ n. n < x) rest) (sym old.sets)
          (known_rest c.len-count.result queue rest fact items old.known)));
      has = λ n k known h. end.grown n k known (old.has n k known h);
      within = λ n k known h. end.grown n k known (within n k known h);
      waits = λ n below.
          elim (end.waits n) as (λ _. Contains c.apply.new.waiting.items n ⊎ IsAsBefore now done n) [
            | inl is ↦ inl is
            | inr as_was ↦
                elim (cases_eq n fact) as (λ _. Contains c.apply.new.waiting.items n ⊎ IsAsBefore now done n) [
                  | inl same ↦
                      inr (λ k low.
                      subst (λ (x : ℕ). is_in done x k ≡ is_in now x k) (sym same)
                      (here k ∙ sym (subst (λ (x : ℕ). is_in now x k ≡ is_in sets x k) same (as_was k low))))
                  | inr other ↦
                      elim (old.waits n below)
                      as (λ _. Contains c.apply.new.waiting.items n ⊎ IsAsBefore now done n) [
                        | inl is ↦
                            inl (end.kept n
                            (in_tail fact rest n (subst (λ (xs : List ℕ). Contains xs n) items is) other))
                        | inr as_before ↦
                            inr (λ k low. there n k other ∙ as_before k low ∙ sym (as_was k low))
                      ]
                ]
          ];
      applied = λ j below d.
          let placed = c.in_ok-premises.ensures.all j below d in
          let rule = get_or rules j d in
          applied_now rules before done sets now fact j d there end.grown same (old.applied j below d)
          (λ e. applied_listed rules done now c.at.result.now j d below (listed rule.first j e placed.0) end.applied)
          (λ e. applied_listed rules done now c.at.result.now j d below (listed rule.second j e placed.1) end.applied);
      sound = end.sound c.args.given.items (omega (arith, old.sets, c.len-count.ensures, c.args.given.ok.0))
          (λ n k known h. old.sound n k known (within n k known h)) old.sound;
    }

pub returns-clause-exact : goal.returns-clause-exact
returns-clause-exact c n k inside known =
    let old = c.facts.invariant in
    let sets = c.facts.sets.items in
    let done = c.facts.done.items in
    let same : length sets ≡ length c.args.given.items =
    omega (arith, old.sets, c.facts.sets.ok.0, c.len-count.ensures, c.args.given.ok.0) in
    let empty : (n : ℕ) → Contains c.facts.waiting.items n → ⊥ =
    λ n is.
    let queue : List ℕ = c.facts.waiting.items in
    let e : length queue ≡ length (drop 1 queue) =
    ap (λ (xs : List ℕ). length xs) (c.in_default.ensures.items ∙ c.in_default.ensures.rest) in
    omega (arith, is.1, e, length-drop 1 queue) in
    let alike : (n : ℕ) → n < length sets → IsAsBefore sets done n =
    λ n below.
    elim (old.waits n (omega (arith, below, old.sets, c.facts.sets.ok.0))) as (λ _. IsAsBefore sets done n) [
      | inl is ↦ absurd (empty n is)
      | inr as_before ↦ as_before
    ] in (
      old.sound n k known,
      complete c.args.given.items sets c.args.rules.now k known same (λ m h. old.has m k known h)
          (λ rule is. applied_all c.args.rules.now done sets rule is alike old.applied) n,
    )
