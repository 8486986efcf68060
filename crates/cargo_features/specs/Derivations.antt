-- The facts that follow on each target.
use Rattle.std.specs.Prelude.{◌≡◌, ◌<◌, ◌≤◌, ℕ, IsTrue, List, Contains, length}
use Rattle.known_targets.specs.Sets.{is_member}
use Rattle.known_targets.specs.declared.target_set.TargetSet.{TargetSet}
use Rattle.package_graphs.specs.Graphs.{is_in}
use Rattle.cargo_features.specs.Deriving.{Follows}
use Rattle.cargo_features.specs.declared.rules.Rule.{Rule}

-- types, as laws and callers name them
abbrev pub Sets : Type 0
Sets = List TargetSet

abbrev pub Rules : Type 0
Rules = List Rule

-- a rule leads from a and b to n, one of `count` facts, and applies on the target k
pub record Applies (count : ℕ) (rules : List Rule) (k a b n : ℕ) : Type 0 where
  pub rule : Rule
  pub is : Contains rules rule
  pub first : rule.first ≡ a
  pub second : rule.second ≡ b
  pub to : rule.to ≡ n
  pub inside : n < count
  pub holds : IsTrue (is_member rule.holds k)

-- the fact n follows on the target k: it is given there, or a rule leads to it from facts that follow there
abbrev pub IsDerived : List TargetSet → List Rule → ℕ → ℕ → Type 0
IsDerived given rules k n =
    Follows (λ n. IsTrue (is_in given n k)) (λ a b n. Applies (length given) rules k a b n) n

-- each rule of the first is one of the second
abbrev pub ArePartOf : List Rule → List Rule → Type 0
ArePartOf rules others = (rule : Rule) → Contains rules rule → Contains others rule

-- the second sets are as many or more, and have what the first have
pub record HaveAll (given more : List TargetSet) : Type 0 where
  pub count : length given ≤ length more
  pub sets : (n k : ℕ) → IsTrue (is_in given n k) → IsTrue (is_in more n k)
