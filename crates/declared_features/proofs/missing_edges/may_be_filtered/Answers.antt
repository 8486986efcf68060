use Rattle.std.proofs.Common.{◌≡◌, ◌∙◌, List, ℕ, true, Option, Some, Bor, false, sym, ap, subst}
use Rattle.std.specs.Option.{option_copied}
use Rattle.declared_features.specs.MissingEdges.{IsKept}
use Rattle.declared_features.proofs.Collecting.{some_same}
use Rattle.declared_features.proofs.missing_edges.may_be_filtered.Goals as goal

pub returns-then-contains : goal.returns-then-contains
returns-then-contains c =
    let metadata = c.args.searched.now.graph.metadata.now in
    let condition = c.in-Some.condition.now in
    let is : option_copied c.args.declared.now.condition ≡ Some condition =
    ap (λ (o : Option (Bor (List ℕ))). option_copied o) c.in-Some.is in
    let kept : IsKept metadata condition = (c.requires.kept condition).0
    (sym c.contains.ensures ∙ c.if-contains.true) in (
      λ h. absurd (let e : false ≡ true = h in cc),
      λ may_be.
          let same : condition ≡ may_be.condition = some_same condition may_be.condition (sym is ∙ may_be.is) in
          absurd (may_be.left_out (subst (λ (s : List ℕ). IsKept metadata s) same kept)),
    )

pub returns : goal.returns
returns c =
    let condition = c.in-Some.condition.now in (
      λ h. record {
        condition = condition;
        is = ap (λ (o : Option (Bor (List ℕ))). option_copied o) c.in-Some.is;
        left_out = λ kept.
            let found = c.contains.ensures ∙ (c.requires.kept condition).1 kept in
            let none = c.if-contains.false in
            cc;
        used = λ dev. sym c.is_root.ensures ∙ c.is_used.ensures.0 h dev;
        library = λ lacks.
            let found = c.has_no_library.ensures.1 lacks in
            let none = c.if-has_no_library.false in
            cc;
      },
      λ may_be. c.is_used.ensures.1 (λ dev. c.is_root.ensures ∙ may_be.used dev),
    )
