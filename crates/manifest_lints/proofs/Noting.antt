-- One more condition among those that were noted, and one that later ones are compared with.
use Rattle.std.proofs.Common.{◌≡◌, ◌∙◌, refl, sym, ap, subst, ℕ, ◌+◌, ◌<◌, ◌≤◌, true, false, true≢false, cond, arith}
use Rattle.std.proofs.Common.{List, [], ◌∷◌, ◌++◌, map, take, get_or, length, length-append, ltb}
use Rattle.std.proofs.Common.{◌↔◌, ◌⊎◌, inl, Option, Some, None}
use Rattle.std.proofs.Common.{Result, Ok, Err, IfOk, IsTrue}
use Rattle.std.specs.Prelude.{IfSome, OnOk, String, Vec, string_bytes}
use Rattle.std.specs.declared.alloc.Global.{Global}
use Rattle.std.specs.BTreeMap as ordered
use Rattle.std.proofs.lemmas.List.{take_all, take_more}
use Rattle.std.proofs.lemmas.List.Elements.{All-nil, All-push}
use Rattle.std.specs.Ordering.{is_eq}
use Rattle.std.specs.Borrow.{Bor}
use Rattle.std.specs.List.{Any}
use Rattle.std.specs.declared.cmp.Ordering.{Ordering}
use Rattle.std.specs.declared.cmp.Ordering.TheVariants.{Less, Equal, Greater}
use Rattle.std.proofs.lemmas.Bool.{ltb-true, lt-ltb}
use Rattle.cargo_platform.specs.declared.Platform.{Platform}
use Rattle.cargo_platform.specs.Trees.{Condition, Target, Expression, condition_of, value_of}
use Rattle.cargo_platform.specs.Facts.{IsTrueCondition, fact_set}
use Rattle.cargo_platform.specs.Key.{condition_key, condition_cmp}
use Rattle.cargo_platform.specs.OrderLaws.{condition_equal_iff}
use Rattle.exact_answers.specs.Asking.{NeedsMore}
use Rattle.exact_answers.specs.Targets.{asked_trees, MayHaveName, IsExample}
use Rattle.exact_answers.specs.declared.platforms.PossibleTarget.{PossibleTarget}
use Rattle.exact_answers.specs.declared.fact_constraints.FactConstraints.{FactConstraints}
use Rattle.manifest_lints.specs.declared.earlier.Class.{Class}
use Rattle.manifest_lints.specs.declared.earlier.Keys.{Keys}
use Rattle.manifest_lints.specs.declared.earlier.Earlier.{Earlier}
use Rattle.manifest_lints.specs.declared.earlier.TheConstants.{MAX_COMPARED_KEYS}
use Rattle.manifest_lints.specs.Earlier.{AreEquivalent, HasEquivalentMember, MayBeUndecided}
use Rattle.manifest_lints.specs.Earlier.{equivalent_place, is_undecided, Member, IsMemberAt}
use Rattle.manifest_lints.specs.Earlier.{NoneIsEquivalent, class_cmp, places_in, places_of, noted, NotesBy}
use Rattle.manifest_lints.specs.Earlier.{is_unlike, IsExpression, PutsUnlike}

-- a map in which one key is set

set_by : (K : Type 0) (o : Ordering) (n : ℕ) (old : Option ℕ) → ((o ≡ Equal) ↔ K)
    → (K → cond (is_eq o) (Some n) old ≡ Some n) × ((K → ⊥) → cond (is_eq o) (Some n) old ≡ old)
set_by K Less n old is = (λ h. let e : Less ≡ Equal = is.1 h in absurd cc, λ h. refl)
set_by K Equal n old is = (λ h. refl, λ h. absurd (h (is.0 refl)))
set_by K Greater n old is = (λ h. let e : Greater ≡ Equal = is.1 h in absurd cc, λ h. refl)

pub set_one : (c d : Condition) (n : ℕ) (old new : Option ℕ)
    → new ≡ cond (is_eq (condition_cmp c d)) (Some n) old
    → (condition_key c ≡ condition_key d → new ≡ Some n) × ((condition_key c ≡ condition_key d → ⊥) → new ≡ old)
set_one c d n old new is =
    let s = set_by (condition_key c ≡ condition_key d) (condition_cmp c d) n old (condition_equal_iff c d) in
    (λ h. is ∙ s.0 h, λ h. is ∙ s.1 h)

-- a member that is found at a place
pub member_at : (k : FactConstraints) (ms : List (ℕ × Bor Platform)) (keys : Keys) (c : Condition) (i : ℕ)
    (m : ℕ × Bor Platform) → ms ≡ keys.members.items → ltb i (length ms) ≡ true → m ≡ get_or ms i m
    → AreEquivalent k (condition_of m.1.now) c → HasEquivalentMember k keys c m.0
member_at k ms keys c i m are within at alike =
    subst (Any (λ (x : ℕ × Bor Platform). (x.0 ≡ m.0) × AreEquivalent k (condition_of x.1.now) c)) are
    (i, m, ltb-true i (length ms) within, sym at, (refl, alike))

-- a member of which it is not known whether it is as true
pub undecided_at : (k : FactConstraints) (ms : List (ℕ × Bor Platform)) (keys : Keys) (c : Condition) (i splits : ℕ)
    (m : ℕ × Bor Platform) → ms ≡ keys.members.items → ltb i (length ms) ≡ true → m ≡ get_or ms i m
    → NeedsMore k (asked_trees (condition_of m.1.now ∷ c ∷ [])) splits → MayBeUndecided k (Some splits) keys c
undecided_at k ms keys c i splits m are within at more =
    inl (subst (Any (λ (x : ℕ × Bor Platform). NeedsMore k (asked_trees (condition_of x.1.now ∷ c ∷ [])) splits)) are
    (i, m, ltb-true i (length ms) within, sym at, more))

-- ---- conditions that are not as true

-- an example of a target has some name
name_beside : (o : Option (String Global)) (q p : Condition) → (name : List ℕ) × MayHaveName o (q ∷ p ∷ []) name
name_beside (Some own) q p = (string_bytes own, refl)
name_beside None (Target a) (Target b) =
    let long : length (a ++ b) ≡ length a + length b = length-append a b in (
      0 ∷ (a ++ b),
      (
        λ e. let l : length a ≡ length (0 ∷ (a ++ b)) = ap length e in omega arith,
        (λ e. let l : length b ≡ length (0 ∷ (a ++ b)) = ap length e in omega arith, tt),
      ),
    )
name_beside None (Target a) (Expression e) =
    (0 ∷ a, (λ is. let l : length a ≡ length (0 ∷ a) = ap length is in omega arith, tt))
name_beside None (Expression e) (Target b) =
    (0 ∷ b, (λ is. let l : length b ≡ length (0 ∷ b) = ap length is in omega arith, tt))
name_beside None (Expression e) (Expression f) = ([], tt)

-- where an example tells two conditions apart, they are not as true
pub not_alike : (k : FactConstraints) (q p : Condition) (t : PossibleTarget)
    → IsExample t k (q ∷ p ∷ []) (λ name s. (IsTrueCondition name s q ↔ IsTrueCondition name s p) → ⊥)
    → AreEquivalent k q p → ⊥
not_alike k q p t is alike =
    let n = name_beside t.name q p in
    is.1.0 n.0 n.1 (alike n.0 (fact_set (map value_of t.facts.items)) is.0)

-- the member that was found at a place is the one there
pub not_member_at : (k : FactConstraints) (ms : List Member) (keys : Keys) (c : Condition) (i : ℕ) (m : Member)
    → ms ≡ keys.members.items → m ≡ get_or ms i m → (AreEquivalent k (condition_of m.1.now) c → ⊥)
    → (n : Member) → IsMemberAt keys n i → AreEquivalent k (condition_of n.1.now) c → ⊥
not_member_at k ms keys c i m are at apart n is alike =
    let same : n ≡ m = sym (is.1 m) ∙ sym (ap (λ (xs : List Member). get_or xs i m) are) ∙ sym at in
    apart (subst (λ (x : Member). AreEquivalent k (condition_of x.1.now) c) same alike)

-- no member stands past the last
pub none_past : (k : FactConstraints) (ms : List Member) (keys : Keys) (c : Condition) (i : ℕ) → ms ≡ keys.members.items
    → ltb i (length ms) ≡ false
    → (n : Member) → IsMemberAt keys n i → AreEquivalent k (condition_of n.1.now) c → ⊥
none_past k ms keys c i are past n is alike =
    true≢false (sym (lt-ltb i (length ms) (subst (λ (xs : List Member). i < length xs) (sym are) is.0)) ∙ past)

pub none_compared : (k : FactConstraints) (keys : Keys) (c : Condition) (ns : List ℕ)
    → NoneIsEquivalent k keys c (take 0 ns)
none_compared k keys c ns =
    All-nil (λ n. (m : Member) → IsMemberAt keys m n → AreEquivalent k (condition_of m.1.now) c → ⊥)

pub one_compared : (k : FactConstraints) (keys : Keys) (c : Condition) (ns : List ℕ) (i d : ℕ) → i < length ns
    → NoneIsEquivalent k keys c (take i ns)
    → ((n : Member) → IsMemberAt keys n (get_or ns i d) → AreEquivalent k (condition_of n.1.now) c → ⊥)
    → NoneIsEquivalent k keys c (take (i + 1) ns)
one_compared k keys c ns i d within before now =
    subst (NoneIsEquivalent k keys c) (sym (take_more ns i d within))
    (All-push (λ n. (m : Member) → IsMemberAt keys m n → AreEquivalent k (condition_of m.1.now) c → ⊥)
    (take i ns) (get_or ns i d) before now)

pub all_compared : (k : FactConstraints) (keys : Keys) (c : Condition) (ns : List ℕ) (class : Class) (i : ℕ)
    (o : Option (Vec ℕ Global)) → length ns ≤ i → NoneIsEquivalent k keys c (take i ns) → ns ≡ places_in o
    → o ≡ ordered.get class_cmp keys.classes class → NoneIsEquivalent k keys c (places_of keys class)
all_compared k keys c ns class i o past before are is =
    subst (NoneIsEquivalent k keys c) (take_all i ns past ∙ are ∙ ap places_in is) before

-- what notes a condition adds no member
pub same_members : {E : Type 0} (k : FactConstraints) (new old : Keys) (c : Condition) (r : Result Earlier E)
    → new.members.items ≡ old.members.items
    → IfOk r (λ a. IfSome (equivalent_place a) (HasEquivalentMember k new c))
    → IfOk r (λ a. IfSome (equivalent_place a) (HasEquivalentMember k old c))
same_members k new old c r same h =
    subst (λ (ms : List (ℕ × Bor Platform)). IfOk r (λ a. IfSome (equivalent_place a)
    (λ n. Any (λ (m : ℕ × Bor Platform). (m.0 ≡ n) × AreEquivalent k (condition_of m.1.now) c) ms))) same h

undecided_too : (k : FactConstraints) (budget : Option ℕ) (new old : Keys) (c : Condition)
    → new.members.items ≡ old.members.items → MayBeUndecided k budget new c → MayBeUndecided k budget old c
undecided_too k None new old c same h = tt
undecided_too k (Some splits) new old c same h =
    subst (λ (ms : List (ℕ × Bor Platform)). Any (λ (m : ℕ × Bor Platform).
    NeedsMore k (asked_trees (condition_of m.1.now ∷ c ∷ [])) splits) ms ⊎ (MAX_COMPARED_KEYS < length ms)) same h

pub same_undecided : {E : Type 0} (k : FactConstraints) (budget : Option ℕ) (new old : Keys) (c : Condition)
    (r : Result Earlier E) → new.members.items ≡ old.members.items
    → IfOk r (λ a. IsTrue (is_undecided a) → MayBeUndecided k budget new c)
    → IfOk r (λ a. IsTrue (is_undecided a) → MayBeUndecided k budget old c)
same_undecided k budget new old c (Ok a) same h = λ is. undecided_too k budget new old c same (h is)
same_undecided k budget new old c (Err e) same h = tt

-- what compares a condition notes none
pub notes_then : {A E : Type 0} (r : Result A E) (o : Option ℕ) (old mid new : Keys) (n : ℕ) (c : Condition)
    → NotesBy o old mid n c → OnOk r ((q : Bor Platform) → noted new q ≡ noted mid q)
    → OnOk r (NotesBy o old new n c)
notes_then (Ok x) None old mid new n c notes same =
    λ q. (λ h. same q ∙ (notes q).0 h, λ h. same q ∙ (notes q).1 h)
notes_then (Ok x) (Some first) old mid new n c notes same = λ q. same q ∙ notes q
notes_then (Err e) None old mid new n c notes same = tt
notes_then (Err e) (Some first) old mid new n c notes same = tt

-- what notes a condition adds no member to those behind which one is put
pub same_puts : {E : Type 0} (between old new : Keys) (n : ℕ) (p : Bor Platform) (r : Result Earlier E)
    → between.members.items ≡ old.members.items → IfOk r (PutsUnlike between new n p) → IfOk r (PutsUnlike old new n p)
same_puts between old new n p r same h =
    subst (λ (ms : List (ℕ × Bor Platform)). IfOk r (λ a. IsTrue (is_unlike a) → IsExpression (condition_of p.now)
    → new.members.items ≡ ms ++ (n, p) ∷ [])) same h
