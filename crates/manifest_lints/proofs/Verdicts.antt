-- What is said to hold of a condition.
use Rattle.std.proofs.Common.{◌≡◌, refl, true, false, true≢false, sym, ap, ℕ, List, [], ◌∷◌, length, map, ◌||◌}
use Rattle.std.proofs.Common.{Option, Some, None, arith, subst, Result, Ok, Err, IfOk, Bool, ◌⊎◌, inr, IsTrue}
use Rattle.std.specs.Prelude.{String, string_bytes}
use Rattle.std.specs.declared.alloc.Global.{Global}
use Rattle.cargo_platform.specs.Trees.{Condition, Target, Expression, value_of}
use Rattle.cargo_platform.specs.Facts.{fact_set, IsTrueCondition}
use Rattle.exact_answers.specs.declared.fact_constraints.FactConstraints.{FactConstraints}
use Rattle.exact_answers.specs.declared.platforms.PossibleTarget.{PossibleTarget}
use Rattle.exact_answers.specs.Targets.{MayHaveName, IsExample}
use Rattle.manifest_lints.specs.declared.deciding.Decided.{Decided}
use Rattle.manifest_lints.specs.declared.deciding.Decided.TheVariants as decided
use Rattle.manifest_lints.specs.Truths.{IsNever, IsAlways, CanHold, CanFail, SaysNever, SaysAlways, is_yes}
use Rattle.manifest_lints.specs.Truths.{is_unknown}

pub as_ok : {A E : Type 0} (P : A → Type 0) (r s : Result A E) → r ≡ s → IfOk s P → IfOk r P
as_ok P r s is h = subst (λ z. IfOk z P) (sym is) h

pub each_ok : {A E : Type 0} (P : A → Type 0) (r : Result A E) → ((x : A) → P x) → IfOk r P
each_ok P (Ok x) all = all x
each_ok P (Err e) all = tt

-- an example has some name
name_of : (o : Option (String Global)) (c : Condition) → (name : List ℕ) × MayHaveName o (c ∷ []) name
name_of (Some own) c = (string_bytes own, refl)
name_of None (Target own) = (0 ∷ own, ((λ e. let l : length own ≡ length (0 ∷ own) = ap length e in omega arith), tt))
name_of None (Expression e) = ([], tt)

pub can_hold : (k : FactConstraints) (c : Condition) (t : PossibleTarget)
    → IsExample t k (c ∷ []) (λ name s. IsTrueCondition name s c) → CanHold k c
can_hold k c t is =
    let n = name_of t.name c in (n.0, fact_set (map value_of t.facts.items), is.0, is.1.0 n.0 n.1)

pub can_fail : (k : FactConstraints) (c : Condition) (t : PossibleTarget)
    → IsExample t k (c ∷ []) (λ name s. IsTrueCondition name s c → ⊥) → CanFail k c
can_fail k c t is =
    let n = name_of t.name c in (n.0, fact_set (map value_of t.facts.items), is.0, is.1.0 n.0 n.1)

pub never_so : (k : FactConstraints) (c : Condition) (d : Decided) → SaysNever d k c → is_yes d ≡ true → IsNever k c
never_so k c decided.Yes h is = h
never_so k c decided.No h is = cc
never_so k c decided.Unknown h is = cc

pub always_so : (k : FactConstraints) (c : Condition) (d : Decided) → SaysAlways d k c → is_yes d ≡ true → IsAlways k c
always_so k c decided.Yes h is = h
always_so k c decided.No h is = cc
always_so k c decided.Unknown h is = cc

pub can_hold_so : (k : FactConstraints) (c : Condition) (d e : Decided) → SaysNever d k c → is_yes d ≡ false
    → (is_unknown d || is_unknown e) ≡ false → CanHold k c
can_hold_so k c decided.Yes e h not_yes is = absurd (true≢false not_yes)
can_hold_so k c decided.No e h not_yes is = h
can_hold_so k c decided.Unknown e h not_yes is = absurd (true≢false is)

pub can_fail_so : (k : FactConstraints) (c : Condition) (d e : Decided) → SaysAlways e k c → is_yes e ≡ false
    → (is_unknown d || is_unknown e) ≡ false → CanFail k c
can_fail_so k c d decided.Yes h not_yes is = absurd (true≢false not_yes)
can_fail_so k c d decided.No h not_yes is = h
can_fail_so k c decided.Yes decided.Unknown h not_yes is = absurd (true≢false is)
can_fail_so k c decided.No decided.Unknown h not_yes is = absurd (true≢false is)
can_fail_so k c decided.Unknown decided.Unknown h not_yes is = absurd (true≢false is)

-- what is not known needs more
pub unknown_so : (N : Type 0) (may_search d e : Bool) → (IsTrue d → N) → (IsTrue e → N) → (d || e) ≡ true
    → (may_search ≡ false) ⊎ N
unknown_so N may_search true e f g is = inr (f refl)
unknown_so N may_search false e f g is = inr (g is)

pub ruleset verdicts = (never_so, always_so, can_hold_so, can_fail_so, unknown_so)
