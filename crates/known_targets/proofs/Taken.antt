-- What a truth says in which each fact that is not known is taken as the one that turns the whole.
use Rattle.std.proofs.Common.{◌≡◌, ◌∙◌, refl, sym, ap, ℕ, Bool, true, false, List, [], Option, Some, None, true≢false}
use Rattle.std.proofs.Common.{IfSome}
use Rattle.std.specs.Prelude.{◌↔◌, ◌||◌, ◌&&◌, not, IsTrue}
use Rattle.std.specs.declared.cmp.Ordering.{Ordering}
use Rattle.std.specs.declared.cmp.Ordering.TheVariants.{Less, Equal, Greater}
use Rattle.std.specs.Ordering.{ordering_then, nat_cmp, is_eq, eq_by_cmp}
use Rattle.std.specs.Cmp.{tied_itself}
use Rattle.std.specs.Cmp.Lexicographic.{slice_cmp}
use Rattle.std.specs.FinSet.{contains, contains-insert, contains-remove}
use Rattle.std.proofs.lemmas.Map.Text.{is_eq-slice_cmp}
use Rattle.std.proofs.lemmas.Slice.Eq.{bytes_eq-Decides}
use Rattle.cargo_platform.specs.Trees.{Condition, Target, Expression}
use Rattle.cargo_platform.specs.Facts.{Pair, FactSet, pair_cmp, truth, IsTrueCondition}
use Rattle.cargo_platform.proofs.FactSets.{pairs_total}
use Rattle.partial_facts.specs.Kleene.{kleene}
use Rattle.partial_facts.specs.Conditions.{kleene_condition}
use Rattle.partial_facts.proofs.Refining.{all_known}
use Rattle.partial_facts.proofs.Naming.{condition_sound}
use Rattle.partial_facts.specs.Partly.{is_named}
use Rattle.known_targets.specs.Open.{unless_open, open_told, taken_as, IsSameButOpen, IsLeftOpen, open_sound}

-- with nothing open
pub closed : (name : List ℕ) (s : FactSet) (c : Condition)
    → IsTrue (taken_as false (kleene_condition (Some name) (open_told s []) c)) ↔ IsTrueCondition name s c
closed name s (Target n) = bytes_eq-Decides n name
closed name s (Expression e) =
    let same : taken_as false (kleene (open_told s []) e) ≡ truth s e = ap (taken_as false) (all_known s e) in
    (λ h. sym same ∙ h, λ h. same ∙ h)

certain : (x : Option Bool) → IsTrue (taken_as false x) ↔ (x ≡ Some true)
certain (Some true) = (λ h. refl, λ h. refl)
certain (Some false) = (λ h. absurd (true≢false (sym h)), λ h. cc)
certain None = (λ h. absurd (true≢false (sym h)), λ h. cc)

ruled_out : (x : Option Bool) → (taken_as true x ≡ false) ↔ (x ≡ Some false)
ruled_out (Some false) = (λ h. refl, λ h. refl)
ruled_out (Some true) = (λ h. absurd (true≢false h), λ h. cc)
ruled_out None = (λ h. absurd (true≢false h), λ h. cc)

pub certainly : (m : Bool) (x : Option Bool) → m ≡ taken_as false x → IsTrue m ↔ (x ≡ Some true)
certainly m x is = (λ h. (certain x).0 (sym is ∙ h), λ h. is ∙ (certain x).1 h)

pub not_possibly : (m : Bool) (x : Option Bool) → m ≡ taken_as true x → (m ≡ false) ↔ (x ≡ Some false)
not_possibly m x is = (λ h. (ruled_out x).0 (sym is ∙ h), λ h. is ∙ (ruled_out x).1 h)

certain_holds : (x : Option Bool) (P : Type 0) → IfSome x (λ b. P ↔ IsTrue b) → IsTrue (taken_as false x) → P
certain_holds (Some b) P is h = is.1 h
certain_holds None P is h = absurd (true≢false (sym h))

what_holds_may : (x : Option Bool) (P : Type 0) → IfSome x (λ b. P ↔ IsTrue b) → P → IsTrue (taken_as true x)
what_holds_may (Some b) P is h = is.0 h
what_holds_may None P is h = refl

module _ (name : List ℕ) (facts : FactSet) (keys : List (List ℕ)) (s : FactSet) (same : IsSameButOpen facts keys s)
    (c : Condition) where
  agrees : IfSome (kleene_condition (Some name) (open_told facts keys) c) (λ b. IsTrueCondition name s c ↔ IsTrue b)
  agrees = condition_sound (Some name) (open_told facts keys) name s refl (λ p. open_sound facts keys s p same) c _ refl

  pub holds_certainly : (m : Bool) → m ≡ taken_as false (kleene_condition (Some name) (open_told facts keys) c)
      → IsTrue m → IsTrueCondition name s c
  holds_certainly m is h = certain_holds _ (IsTrueCondition name s c) agrees (sym is ∙ h)

  pub holds_possibly : (m : Bool) → m ≡ taken_as true (kleene_condition (Some name) (open_told facts keys) c)
      → IsTrueCondition name s c → IsTrue m
  holds_possibly m is h = is ∙ what_holds_may _ (IsTrueCondition name s c) agrees h

closed_fact : (o t c : Bool) → IfSome (unless_open o t) (λ b. c ≡ b) → o ≡ false → c ≡ t
closed_fact false t c h is = h
closed_fact true t c h is = absurd (true≢false is)

pub allowed : (facts : FactSet) (keys : List (List ℕ)) (s : FactSet) → IsSameButOpen facts keys s
    ↔ ((p : Pair) → IfSome (open_told facts keys p) (λ b. contains s p ≡ b))
allowed facts keys s = (
  λ same p. open_sound facts keys s p same,
  λ told p. closed_fact (is_named p.name keys) (contains facts p) (contains s p) (told p),
)

-- ---- what is not told

named : (o t : Bool) → unless_open o t ≡ None → o ≡ true
named true t h = refl
named false t h = cc

first_tied : (a b : Ordering) → is_eq (ordering_then a b) ≡ true → is_eq a ≡ true
first_tied Less b h = h
first_tied Equal b h = refl
first_tied Greater b h = h

-- a pair of another name is another pair
apart : (keys : List (List ℕ)) (p q : Pair) → is_named p.name keys ≡ true → is_named q.name keys ≡ false
    → eq_by_cmp pair_cmp q p ≡ false
apart keys p q is other = elim (eq_by_cmp pair_cmp q p) as (λ b. eq_by_cmp pair_cmp q p ≡ b → b ≡ false) [
  | false ↦ λ e. refl
  | true ↦
      λ e.
      let tied : is_eq (slice_cmp nat_cmp q.name p.name) ≡ true = first_tied (slice_cmp nat_cmp q.name p.name) _ e in
      let same : q.name ≡ p.name = (bytes_eq-Decides q.name p.name).0
      (sym (is_eq-slice_cmp q.name p.name) ∙ tied) in
      absurd (true≢false (sym is ∙ sym (ap (λ n. is_named n keys) same) ∙ other))
] refl

itself : (p : Pair) → eq_by_cmp pair_cmp p p ≡ true
itself p = ap is_eq (tied_itself pairs_total p)

pub left_open : (facts : FactSet) (keys : List (List ℕ)) (p : Pair) → open_told facts keys p ≡ None
    → IsLeftOpen facts keys p
left_open facts keys p h =
    let is : is_named p.name keys ≡ true = named (is_named p.name keys) (contains facts p) h in
    record {
      may_be = λ q other.
          contains-insert pairs_total facts p q ∙ ap (λ b. b || contains facts q) (apart keys p q is other);
      is_in = contains-insert pairs_total facts p p ∙ ap (λ b. b || contains facts p) (itself p);
      need_not_be = λ q other.
          contains-remove pairs_total facts p q ∙ ap (λ b. not b && contains facts q) (apart keys p q is other);
      is_out = contains-remove pairs_total facts p p ∙ ap (λ b. not b && contains facts p) (itself p);
    }
