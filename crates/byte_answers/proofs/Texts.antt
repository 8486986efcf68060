-- The texts of a program's conditions are UTF-8.
use Rattle.std.proofs.Common.{sym, subst, List, [], ◌∷◌, map}
use Rattle.std.proofs.lemmas.Str.{IsUtf8-string_bytes, IsUtf8-nil}
use Rattle.cargo_platform.specs.declared.cfg.Cfg.{Cfg}
use Rattle.cargo_platform.specs.declared.cfg.Cfg.TheVariants as cfg
use Rattle.cargo_platform.specs.declared.cfg.CfgExpr.{CfgExpr, ind-CfgExpr, roll-CfgExpr, map-CfgExpr}
use Rattle.cargo_platform.specs.declared.cfg.CfgExpr.{fold-roll-CfgExpr}
use Rattle.cargo_platform.specs.declared.cfg.CfgExpr.TheOpen as layer
use Rattle.cargo_platform.specs.declared.Platform.{Platform}
use Rattle.cargo_platform.specs.declared.Platform.TheVariants as platform
use Rattle.cargo_platform.specs.Trees.{Tree, tree_of, trees_of, tree_step, value_of, condition_of}
use Rattle.byte_answers.specs.Flat.{IsValueOfTexts, IsTreeOfTexts, AreTreesOfTexts, IsOfTexts, AreOfTexts}

pub texts_of_value : (c : Cfg) → IsValueOfTexts (value_of c)
texts_of_value (cfg.Name i) = (IsUtf8-string_bytes i.name, IsUtf8-nil)
texts_of_value (cfg.KeyPair i v) = (IsUtf8-string_bytes i.name, IsUtf8-string_bytes v)

texts_of_members : {A : Type 0} (f : A → CfgExpr) → ((a : A) → IsTreeOfTexts (tree_of (f a)))
    → (xs : List A) → AreTreesOfTexts (trees_of (map tree_of (map f xs)))
texts_of_members f w [] = tt
texts_of_members f w (x ∷ xs) = (w x, texts_of_members f w xs)

texts_of_step : {A : Type 0} (f : A → CfgExpr) → ((a : A) → IsTreeOfTexts (tree_of (f a)))
    → (y : layer.CfgExpr-F A) → IsTreeOfTexts (tree_step (map-CfgExpr CfgExpr Tree tree_of (map-CfgExpr A CfgExpr f y)))
texts_of_step f w (layer.Not b) = w b.value
texts_of_step f w (layer.All es) = texts_of_members f w es.items
texts_of_step f w (layer.Any es) = texts_of_members f w es.items
texts_of_step f w (layer.Value c) = texts_of_value c
texts_of_step f w layer.True = tt
texts_of_step f w layer.False = tt

pub texts_of_expression : (e : CfgExpr) → IsTreeOfTexts (tree_of e)
texts_of_expression =
    ind-CfgExpr (λ e. IsTreeOfTexts (tree_of e)) (λ x y is.
    subst (λ (z : layer.CfgExpr-F CfgExpr). IsTreeOfTexts (tree_of (roll-CfgExpr z))) is
    (subst IsTreeOfTexts (sym (fold-roll-CfgExpr Tree tree_step _)) (texts_of_step (λ e. e.0) (λ e. e.1) y)))

pub texts_of_condition : (p : Platform) → IsOfTexts (condition_of p)
texts_of_condition (platform.Name s) = IsUtf8-string_bytes s
texts_of_condition (platform.Cfg e) = texts_of_expression e

pub texts_of_values : (cs : List Cfg) → AreOfTexts (map value_of cs)
texts_of_values [] = tt
texts_of_values (c ∷ cs) = (texts_of_value c, texts_of_values cs)
