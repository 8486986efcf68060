use Rattle.std.proofs.Common.{◌≡◌, ℕ, List, [], ◌∷◌, sym, ◌∙◌, ap, subst, inl, inr, below_more}
use Rattle.std.specs.Prelude.{Contains, IsTrue}
use Rattle.std.proofs.lemmas.Bool.{both_ways}
use Rattle.std.proofs.lemmas.List.Elements.{Contains-append_left, Contains-push, Contains-push_cases}
use Rattle.package_graphs.specs.Packages.{is_root, is_macro, node_of, side}
use Rattle.package_graphs.specs.declared.sides.Side.{Side}
use Rattle.package_graphs.proofs.Sided.{root_read, macro_read}
use Rattle.package_graphs.proofs.two_sided_graph.TraversalQuery.roots.Goals as goal

pub packages-preserved : goal.packages-preserved
packages-preserved c =
    let packages = c.args.packages.now in
    let i = c.packages.i in
    let old = c.packages.roots.items in
    let new = c.push.new.self.items in
    let node = c.node_of.result in
    let root = root_read packages i c.index-packages-i.result c.packages-test.true ∙ c.if-not-packages-i.false in
    let macro = macro_read packages i c.index-packages-i-in-packages.result c.packages-test.true in
    let is : node ≡ node_of i (side (is_macro packages i)) =
    c.node_of.ensures
    ∙ ap (λ (s : Side). node_of i s) (c.new.ensures ∙ ap side (sym macro)) in
    let items = c.in_ok-push.ensures.items in
    record {
      sound = λ r h.
          elim (Contains-push_cases old node r (subst (λ (xs : List ℕ). Contains xs r) items h)) [
            | inl before ↦ c.packages.invariant.sound r before
            | inr this ↦ (i, root, sym this ∙ is)
          ];
      complete =
          below_more (λ p. IsTrue (is_root packages p)
          → Contains new (node_of p (side (is_macro packages p)))) i
          (λ p below h.
          let it = node_of p (side (is_macro packages p)) in
          subst (λ (xs : List ℕ). Contains xs it) (sym items)
          (Contains-append_left old (node ∷ []) it (c.packages.invariant.complete p below h)))
          (λ h.
          subst (λ (x : ℕ). Contains new x) is
          (subst (λ (xs : List ℕ). Contains xs node) (sym items) (Contains-push old node)));
    }

pub packages-preserved-then-not-packages-i : goal.packages-preserved-then-not-packages-i
packages-preserved-then-not-packages-i c =
    let packages = c.args.packages.now in
    let i = c.packages.i in
    let no_root = root_read packages i c.index-packages-i.result c.packages-test.true ∙ c.if-not-packages-i.true in
    record {
      sound = c.packages.invariant.sound;
      complete =
          below_more (λ p. IsTrue (is_root packages p)
          → Contains c.packages.roots.items (node_of p (side (is_macro packages p)))) i
          c.packages.invariant.complete
          (λ h. absurd (both_ways (is_root packages i) no_root h));
    }
