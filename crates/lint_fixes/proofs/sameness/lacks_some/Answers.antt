use Rattle.std.proofs.Common.{◌≡◌, ℕ, ◌+◌, ◌<◌, length, List, drop, get_or, arith, inl, inr, subst, sym, ap, ◌∙◌}
use Rattle.std.proofs.Common.{eqb-true}
use Rattle.std.proofs.lemmas.List.{drop_all}
use Rattle.toml.specs.Data.{Data, Items, no_items, item}
use Rattle.toml.specs.View.{view, items_view}
use Rattle.toml.specs.declared.value.Value.{Value}
use Rattle.toml.proofs.Views.{items_view-drop}
use Rattle.lint_fixes.specs.Sameness.{LacksSome}
use Rattle.lint_fixes.proofs.sameness.lacks_some.Goals.{then-kept-fixed+then-is_same_value, else-kept-fixed}
use Rattle.lint_fixes.proofs.sameness.lacks_some.Goals as goal

skipped : (d : Data) (ds es : Items) → LacksSome ds es → LacksSome (item d ds) es
skipped d ds no_items h = tt
skipped d ds (item e es) h = inr h

-- an entry that fixed lacks
step_on : (xs : List Value) (i : ℕ) (d : Value) (es : Items) → i < length xs
    → LacksSome (items_view (drop (i + 1) xs)) es → LacksSome (items_view (drop i xs)) es
step_on xs i d es h rest = rw (items_view-drop xs i d h) (skipped _ _ es rest)

-- an entry that fixed has
step_same : (xs ys : List Value) (i k : ℕ) (d e : Value) → i < length xs → k < length ys
    → view (get_or xs i d) ≡ view (get_or ys k e)
    → LacksSome (items_view (drop (i + 1) xs)) (items_view (drop (k + 1) ys))
    → LacksSome (items_view (drop i xs)) (items_view (drop k ys))
step_same xs ys i k d e h t same rest = rw (items_view-drop xs i d h, items_view-drop ys k e t) (inl (same, rest))

pub loop-entry-init : goal.loop-entry-init
loop-entry-init c = λ h. h

pub loop-entry-preserved : goal.loop-entry-preserved
loop-entry-preserved c = λ rest.
    let xs = c.args.entries.now in
    let i = c.loop-entry.entry-index in
    elim c.if-kept-fixed.branch [
      | then-kept-fixed+then-is_same_value w ↦
          let same = w.is_same_value.ensures w.if-is_same_value.true in
          c.loop-entry.invariant (step_same xs c.args.fixed.now i c.loop-entry.kept c.entry-item.result
          w.index-fixed-kept.result (omega arith) (omega arith)
          (sym (ap view c.entry-item.is) ∙ same ∙ ap view w.index-fixed-kept.is)
          (subst (λ n. LacksSome (items_view (drop (i + 1) xs)) (items_view (drop n c.args.fixed.now))) w.kept-is rest))
      | else-kept-fixed w ↦
          c.loop-entry.invariant (step_on xs i c.entry-item.result _ (omega arith)
          (subst (λ n. LacksSome (items_view (drop (i + 1) xs)) (items_view (drop n c.args.fixed.now))) w.kept-is rest))
    ]

pub returns : goal.returns
returns c = λ all.
    let kept : c.loop-entry.kept ≡ length c.args.fixed.now = eqb-true _ _ all in
    let none = drop_all c.loop-entry.entry-index c.args.entries.now (omega arith) in
    let none-2 = drop_all c.loop-entry.kept c.args.fixed.now (omega arith) in
    c.loop-entry.invariant (rw (none, none-2) tt)
