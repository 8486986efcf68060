use Rattle.std.proofs.Common.{◌≡◌, suc, List, [], ◌∷◌, length, refl, ap}
use Rattle.toml.specs.View.{items_view}
use Rattle.toml.specs.declared.value.Value.{Value}
use Rattle.lint_fixes.specs.Sameness.{count_items}
use Rattle.lint_fixes.proofs.sameness.length_of.Goals as goal

counted : (vs : List Value) → length vs ≡ count_items (items_view vs)
counted [] = refl
counted (v ∷ vs) = ap suc (counted vs)

pub returns : goal.returns
returns c = counted c.args.items.now
