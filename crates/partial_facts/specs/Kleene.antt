-- Kleene's strong logic: the truth of a tree if it follows from what is known of its values. `None` means that it is
-- not known.
use Rattle.std.specs.Prelude.{Bool, true, false, not, Option, Some, None}
use Rattle.cargo_platform.specs.Trees.{Tree, Not, All, Any, Value, True, False, Trees, none, tree}
use Rattle.cargo_platform.specs.Facts.{Pair, pair_of}

abbrev pub kleene_not : Option Bool → Option Bool
kleene_not (Some b) = Some (not b)
kleene_not None = None

-- false if one is false, true if both are true
abbrev pub kleene_and : Option Bool → Option Bool → Option Bool
kleene_and (Some false) y = Some false
kleene_and (Some true) y = y
kleene_and None (Some false) = Some false
kleene_and None (Some true) = None
kleene_and None None = None

-- true if one is true, false if both are false
abbrev pub kleene_or : Option Bool → Option Bool → Option Bool
kleene_or (Some true) y = Some true
kleene_or (Some false) y = y
kleene_or None (Some true) = Some true
kleene_or None (Some false) = None
kleene_or None None = None

abbrev mutual
  pub kleene : (Pair → Option Bool) → Tree → Option Bool
  kleene told (Not e) = kleene_not (kleene told e)
  kleene told (All es) = kleene_all told es
  kleene told (Any es) = kleene_any told es
  kleene told (Value c) = told (pair_of c)
  kleene told True = Some true
  kleene told False = Some false

  pub kleene_all : (Pair → Option Bool) → Trees → Option Bool
  kleene_all told none = Some true
  kleene_all told (tree e es) = kleene_and (kleene told e) (kleene_all told es)

  pub kleene_any : (Pair → Option Bool) → Trees → Option Bool
  kleene_any told none = Some false
  kleene_any told (tree e es) = kleene_or (kleene told e) (kleene_any told es)
