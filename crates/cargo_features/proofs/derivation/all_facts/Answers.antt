use Rattle.std.proofs.Common.{◌<◌, ℕ, List, [], ◌∷◌, sym, subst, below_more}
use Rattle.std.specs.Prelude.{All, Contains}
use Rattle.std.proofs.lemmas.List.Elements.{All-push, Contains-push, Contains-append_left}
use Rattle.cargo_features.proofs.derivation.all_facts.Goals as goal

pub facts-preserved : goal.facts-preserved
facts-preserved c =
    let before : List ℕ = c.facts.facts.items in
    let now : List ℕ = c.push_back.new.self.items in
    let fact = c.facts.fact in
    let items = sym {A = List ℕ} c.in_ok-push_back.ensures.items in
    record {
      known = subst (λ (xs : List ℕ). All (λ n. n < c.args.count) xs) items
          (All-push (λ n. n < c.args.count) before fact c.facts.invariant.known c.facts-test.true);
      all = below_more (λ n. Contains now n) fact
          (λ n below. subst (λ (xs : List ℕ). Contains xs n) items
          (Contains-append_left before (fact ∷ []) n (c.facts.invariant.all n below)))
          (subst (λ (xs : List ℕ). Contains xs fact) items (Contains-push before fact));
    }
