use Rattle.std.specs.Prelude.{IsTrue, length}
use Rattle.package_graphs.specs.Graphs.{is_in}
use Rattle.cargo_features.specs.Deriving.{given, follows}
use Rattle.cargo_features.specs.Derivations.{Applies}
use Rattle.cargo_features.proofs.Following.{held_through}
use Rattle.cargo_features.proofs.rule_laws.derivation_is_least.Goals as goal

pub returns-clause-given : goal.returns-clause-given
returns-clause-given c sets rules k n is = given n is

pub returns-clause-rules : goal.returns-clause-rules
returns-clause-rules c sets rules k a b n one two applies = follows a b n one two applies

pub returns-clause-least : goal.returns-clause-least
returns-clause-least c sets rules at first on n k =
    held_through (λ n. IsTrue (is_in sets n k)) (λ a b n. Applies (length sets) rules k a b n) (λ m. IsTrue (at m k))
    (λ m is. first m k is) (λ a b m one two applies. on a b m k one two applies) n
