-- The truth values of conditions on known targets, whichever facts with open names and keys are set there.
use Rattle.std.specs.Prelude.{◌≡◌, ◌<◌, ◌≤◌, ◌⊎◌, ℕ, Bool, true, false, IsTrue, List, [], ◌∷◌, length, Some}
use Rattle.cargo_platform.specs.Trees.{Condition, True, tree_of}
use Rattle.cargo_platform.specs.Facts.{FactSet, IsTrueCondition}
use Rattle.partial_facts.specs.Conditions.{kleene_condition, residual_condition}
use Rattle.exact_answers.specs.declared.fact_constraints.FactConstraints.{FactConstraints}
use Rattle.exact_answers.specs.Asking.{NeedsMore}
use Rattle.exact_answers.specs.Targets.{asked_trees}
use Rattle.known_targets.specs.Open.{open_told, IsSameButOpen}
use Rattle.known_targets.specs.Sets.{is_member}
use Rattle.known_targets.specs.Table.{target_name, target_facts}
use Rattle.known_targets.specs.declared.table.TheConstants.{COUNT}
use Rattle.known_targets.specs.declared.target_set.TargetSet.{TargetSet}
use Rattle.manifest_lints.specs.declared.at_targets.TheConstants.{MAX_OPEN_NAMES, MAX_SPLITS_PER_TARGET}
use Rattle.manifest_lints.specs.declared.deciding.TheConstants.{MAX_FULLY_SEARCHED_FACTS}
use Rattle.manifest_lints.specs.declared.deciding.Decided.{Decided}
use Rattle.manifest_lints.specs.declared.deciding.Decided.TheVariants as decided

-- ---- over any set of facts

-- it has this truth value on a target with this name, over a set of facts
abbrev pub IsOver : Bool → List ℕ → FactSet → Condition → Type 0
IsOver true name s c = IsTrueCondition name s c
IsOver false name s c = IsTrueCondition name s c → ⊥

-- nothing is known of the facts of a target
pub record KnowsNothing (k : FactConstraints) : Type 0 where
  pub facts : k.facts.now ≡ []
  pub complete : k.complete.now ≡ []
  pub single : k.single.now ≡ []
  pub assumed : tree_of k.assumed.now ≡ True

-- the case splits on one target are too few for the condition
abbrev pub NeedsMoreFree : Condition → Type 0
NeedsMoreFree c = (known : FactConstraints)
    × (KnowsNothing known × NeedsMore known (asked_trees (c ∷ [])) MAX_SPLITS_PER_TARGET)

-- the meaning of the answers to whether it never has this truth value
abbrev pub SaysNeverFree : Bool → Decided → Condition → Type 0
SaysNeverFree truth decided.Yes c = (name : List ℕ) (s : FactSet) → IsOver truth name s c → ⊥
SaysNeverFree truth decided.No c = (name : List ℕ) × ((s : FactSet) × IsOver truth name s c)
SaysNeverFree truth decided.Unknown c = NeedsMoreFree c

-- ---- on one target, by its place in the table

-- it has this truth value over no set of facts that is the target's but for open ones; and over some such set
abbrev pub IsNeverAt : Bool → List (List ℕ) → Condition → ℕ → Type 0
IsNeverAt truth open_keys c k =
    (s : FactSet) → IsSameButOpen (target_facts k) open_keys s → IsOver truth (target_name k) s c → ⊥

abbrev pub CanBeAt : Bool → List (List ℕ) → Condition → ℕ → Type 0
CanBeAt truth open_keys c k =
    (s : FactSet) × (IsSameButOpen (target_facts k) open_keys s × IsOver truth (target_name k) s c)

-- what is left of the condition on the target: the names and pairs that are open
abbrev pub left_at : List (List ℕ) → Condition → ℕ → Condition
left_at open_keys c k = residual_condition (Some (target_name k)) (open_told (target_facts k) open_keys) c

-- the case splits on one target are too few for what is left there
abbrev pub NeedsMoreAt : List (List ℕ) → Condition → ℕ → Type 0
NeedsMoreAt open_keys c k = NeedsMoreFree (left_at open_keys c k)

-- the meaning of the answers to whether it never has this truth value there
abbrev pub SaysNeverAt : Bool → Decided → List (List ℕ) → Condition → ℕ → Type 0
SaysNeverAt truth decided.Yes open_keys c k = IsNeverAt truth open_keys c k
SaysNeverAt truth decided.No open_keys c k = CanBeAt truth open_keys c k
SaysNeverAt truth decided.Unknown open_keys c k = NeedsMoreAt open_keys c k

-- it can have this truth value there, or the case splits are too few
abbrev pub MayBeAt : Bool → List (List ℕ) → Condition → ℕ → Type 0
MayBeAt truth open_keys c k = CanBeAt truth open_keys c k ⊎ NeedsMoreAt open_keys c k

-- ---- on known targets

-- so it may be on a target of the set
abbrev pub MayBeIn : Bool → TargetSet → List (List ℕ) → Condition → Type 0
MayBeIn truth set open_keys c =
    (k : ℕ) × ((k < COUNT) × ((is_member set k ≡ true) × MayBeAt truth open_keys c k))

-- it never has this truth value on a known target
abbrev pub IsNeverOn : Bool → List (List ℕ) → Condition → Type 0
IsNeverOn truth open_keys c = (k : ℕ) → k < COUNT → IsNeverAt truth open_keys c k

-- the same, and on each target that follows from what each fact says by itself, in Kleene's logic
abbrev pub IsNeverByFacts : Bool → List (List ℕ) → Condition → Type 0
IsNeverByFacts true open_keys c =
    (k : ℕ) → k < COUNT
    → kleene_condition (Some (target_name k)) (open_told (target_facts k) open_keys) c ≡ Some false
IsNeverByFacts false open_keys c =
    (k : ℕ) → k < COUNT
    → kleene_condition (Some (target_name k)) (open_told (target_facts k) open_keys) c ≡ Some true

-- the reason why that it never has this truth value may not be said: on some known target it can have it, or the case
-- splits are too few; too many names and keys are open; or the condition has too many facts
pub data MayBeOn (truth : Bool) (facts : ℕ) (open_keys : List (List ℕ)) (c : Condition) : Type 0 where
  at_target : (k : ℕ) → k < COUNT → MayBeAt truth open_keys c k → MayBeOn truth facts open_keys c
  many_open : MAX_OPEN_NAMES < length open_keys → MayBeOn truth facts open_keys c
  many_facts : MAX_FULLY_SEARCHED_FACTS < facts → MayBeOn truth facts open_keys c

-- an answer to whether a condition of so many facts never has this truth value on a known target is right; it is given
-- where each fact says so by itself, and where none is given there is a reason
pub record SettlesOn (truth : Bool) (facts : ℕ) (open_keys : List (List ℕ)) (c : Condition) (b : Bool) : Type 0 where
  pub right : IsTrue b → IsNeverOn truth open_keys c
  pub by_facts : length open_keys ≤ MAX_OPEN_NAMES → IsNeverByFacts truth open_keys c → IsTrue b
  pub missed : b ≡ false → MayBeOn truth facts open_keys c
