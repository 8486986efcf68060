use Rattle.std.specs.Prelude.{IsTrue, Contains}
use Rattle.package_graphs.specs.Reaching.{starts, goes_on}
use Rattle.package_graphs.specs.Graphs.{LeadsAt}
use Rattle.package_graphs.proofs.Reached.{held_along}
use Rattle.package_graphs.proofs.laws.presence_is_least.Goals as goal

pub returns-clause-roots : goal.returns-clause-roots
returns-clause-roots c graph roots k n is = starts n is

pub returns-clause-edges : goal.returns-clause-edges
returns-clause-edges c graph roots k m n here leads = goes_on m n here leads

pub returns-clause-least : goal.returns-clause-least
returns-clause-least c graph roots at first on n k =
    held_along (λ root. Contains roots root) (λ m n. LeadsAt graph k m n) (λ m. IsTrue (at m k))
    (λ m is. first m k is) (λ m n here leads. on m n k here leads) n
