-- Two texts in the earlier grammars, and today.
use Rattle.std.proofs.Common.{refl, true, codes}
use Rattle.cargo_platform.specs.Trees.{Alone, KeyPair, Value, True, Expression}
use Rattle.cargo_platform.specs.Spelling.{Expressions, IsTreeText}
use Rattle.cargo_platform.specs.Faults.{IsRefused, UnterminatedExpression}
use Rattle.cargo_platform.specs.Earlier.{IsReleasedTreeText, IsReleasedConditionText, IsTransitionalTreeText}
use Rattle.cargo_platform.proofs.OnLiterals.{tokens_in, cut_whole, spelling_on_literal, refused_on_literal}
use Rattle.cargo_platform.proofs.Rows.Trees.{name, marked}

-- ---- `r#true` was the literal, and is a name

literal_released : IsReleasedTreeText (codes "r#true") True
literal_released = (tokens_in (codes "r#true"), cut_whole (codes "r#true") refl, (true, refl))

condition_released : IsReleasedConditionText (codes "cfg(r#true)") (Expression True)
condition_released = (codes "r#true", refl, literal_released)

name_today : IsTreeText (codes "r#true") (Value (Alone (marked (codes "true"))))
name_today = spelling_on_literal (codes "r#true") (Value (Alone (marked (codes "true")))) refl (refl, (refl, refl))

-- ---- `true = "x"` was a pair, and has a surplus after the literal

pair_transitional : IsTransitionalTreeText (codes "true = \"x\"") (Value (KeyPair (name (codes "true")) (codes "x")))
pair_transitional = (tokens_in (codes "true = \"x\""), cut_whole (codes "true = \"x\"") refl, (refl, refl))

surplus_today : IsRefused Expressions (codes "true = \"x\"") (UnterminatedExpression (codes "= \"x\""))
surplus_today = refused_on_literal (codes "true = \"x\"") (UnterminatedExpression (codes "= \"x\"")) refl refl
