-- Conditions that are as true share a class.
use Rattle.std.proofs.Common.{◌≡◌, ◌∙◌, refl, sym, ap, subst, ℕ, ◌+◌, ◌*◌, ◌/◌, ◌%◌, ◌^◌, ◌<◌, ◌≤◌, true, false}
use Rattle.std.proofs.Common.{◌&&◌, ◌↔◌, inl, inr, arith, List, [], ◌∷◌, ◌++◌, map, length, get_or}
use Rattle.std.proofs.Common.{cond, length-append, Option, Some, None, Bool, ◌||◌, not, true≢false}
use Rattle.std.specs.Prelude.{codes, is_some, Contains, IsTrue, Vec, nat_eq, bytes_eq, Result, Ok, Err, IfOk, OnOk}
use Rattle.std.specs.declared.alloc.Global.{Global}
use Rattle.std.specs.declared.cmp.Ordering.{Ordering}
use Rattle.std.specs.declared.cmp.Ordering.TheVariants.{Less, Equal, Greater}
use Rattle.std.specs.Ordering.{is_eq, nat_cmp, ordering_then}
use Rattle.std.specs.Cmp.{Equal-is, both_ways, eq_by_cmp_equiv}
use Rattle.std.specs.Cmp.Lexicographic.{slice_cmp}
use Rattle.std.specs.FinSet.{contains, from_list, contains-from_list}
use Rattle.std.specs.BTreeMap as ordered
use Rattle.std.specs.Int.{bit_at}
use Rattle.std.proofs.lemmas.Bool.{cases_lt}
use Rattle.std.proofs.lemmas.List.{ext_get_or, get_or-map, length-map, get_or_append_left, append-nil}
use Rattle.std.proofs.Math.Seq.{get_or-append_seam}
use Rattle.std.proofs.lemmas.List.Elements.{Contains-append_left, Contains-append_right, Contains-push}
use Rattle.std.proofs.lemmas.Map.Lookups.{exact_bytes, exact_unsigned}
use Rattle.std.proofs.lemmas.Slice.Eq.{bytes_eq-Decides}
use Rattle.std.proofs.lemmas.Map.Views.{list_any-from_Contains}
use Rattle.cargo_platform.specs.Trees.{CfgValue, Tree, Not, All, Any, Value, True, False, Trees, none, tree}
use Rattle.cargo_platform.specs.Trees.{Condition, Expression, condition_of}
use Rattle.cargo_platform.specs.Facts.{Pair, FactSet, IsTrueCondition, pair_of, pair_cmp, truth}
use Rattle.cargo_platform.specs.Warnings.{values, members_values}
use Rattle.cargo_platform.proofs.FactSets.{pairs_total}
use Rattle.partial_facts.specs.Partly.{is_named}
use Rattle.partial_facts.specs.OneValued.{is_single, has_key}
use Rattle.known_targets.specs.Listed.{some_below}
use Rattle.known_targets.specs.Bits.{has}
use Rattle.known_targets.specs.Sets.{is_member}
use Rattle.known_targets.specs.Table.{target_name, target_facts}
use Rattle.known_targets.specs.declared.target_set.TargetSet.{TargetSet}
use Rattle.known_targets.specs.declared.table.TheConstants.{COUNT, SET_WORDS}
use Rattle.exact_answers.specs.Families.{IsSetWithFamily}
use Rattle.exact_answers.specs.declared.fact_constraints.FactConstraints.{FactConstraints}
use Rattle.manifest_lints.specs.Samples.{AreTruths, is_set, truth_by, all_by, any_by, one_valued}
use Rattle.manifest_lints.specs.Samples.{holds, holds_with, holds_beside, is_only}
use Rattle.manifest_lints.specs.Rustcs.{IsRustcs, AllowsRustcs}
use Rattle.manifest_lints.specs.Earlier.{Member, IsMemberAt, AreEquivalent, NoneIsEquivalent, places_in}
use Rattle.manifest_lints.specs.Earlier.{class_cmp, places_of, part_of, is_unlike, TellsUnlike}
use Rattle.manifest_lints.specs.Classes.{IsClassOf, ClassMap, PutsIn, PutsMember}
use Rattle.manifest_lints.specs.Numbers.{IsNumberOf, is_unknown_value, unknown_values, same_pair, has_pair}
use Rattle.manifest_lints.specs.Numbers.{truths_with, apart, apart_of, summed}
use Rattle.manifest_lints.specs.Classes.{IsClassed, AreClassed, AreUnlike, TellsNoneEquivalent}
use Rattle.manifest_lints.specs.declared.earlier.Class.{Class}
use Rattle.manifest_lints.specs.declared.earlier.Part.{Part}
use Rattle.manifest_lints.specs.declared.earlier.Part.TheVariants as parts
use Rattle.manifest_lints.specs.contracts.earlier.ClassOrd.TheImpl.Laws as class_laws
use Rattle.manifest_lints.specs.contracts.earlier.PartOrd.TheImpl as part_ord
use Rattle.manifest_lints.specs.declared.earlier.Earlier.{Earlier}
use Rattle.manifest_lints.specs.declared.earlier.Keys.{Keys}
use Rattle.manifest_lints.specs.declared.sample_sets.TheConstants.{STRIDE}
use Rattle.manifest_lints.proofs.SetWords.{same_word, left_true, right_true}
use Rattle.manifest_lints.proofs.Rows.{one_value, family_name, family_pair, unix_family, windows_family}
use Rattle.manifest_lints.proofs.Rows.{unix_is, windows_is}
use Rattle.manifest_lints.proofs.Samples.{single_is, holds_known, beside_none, sample, in_sample, over_sample}
use Rattle.manifest_lints.proofs.Samples.{with_others, with_key}
use Rattle.manifest_lints.proofs.Numbers.{apart_none, same_bits, each_distinct, each_unknown, all_found}
use Rattle.manifest_lints.proofs.Numbers.{same_total, same_total_word, same_at, only_others}
use Rattle.manifest_lints.proofs.Tried.{fails_at}

-- ---- known targets are possible

pub targets_are : (k : ℕ) → k < COUNT → IsRustcs (target_facts k)
targets_are k below = (
  λ p q sp sq names hp hq. inl (one_value k p q below sp sq names hp hq),
  (unix_family k, windows_family k),
)

-- ---- sets that are tried are possible

-- what this tells keeps the rules: a key with one value has one at most, and families go with their pairs
pub record KeepsRules (h : Pair → Bool) : Type 0 where
  pub one : (p q : Pair) → is_single one_valued p ≡ true → is_some q.value ≡ true → p.name ≡ q.name → h p ≡ true
      → h q ≡ true → p ≡ q
  pub unix : h (family_name (codes "unix")) ≡ h (family_pair (codes "unix"))
  pub windows : h (family_name (codes "windows")) ≡ h (family_pair (codes "windows"))

single_too : (p q : Pair) → p.name ≡ q.name → is_single one_valued p ≡ true → is_some q.value ≡ true
    → is_single one_valued q ≡ true
single_too p q names sp sq =
    let named : is_named q.name one_valued ≡ true =
    subst (λ n. is_named n one_valued ≡ true) names (left_true (is_named p.name one_valued) (is_some p.value) sp) in
    λ i. named i && sq i

module _ (l : ℕ) (low : l < 64) where
  place_within : l * STRIDE < COUNT
  place_within = omega arith

  in_target : (p : Pair) → is_single one_valued p ≡ true → holds l p ≡ true
      → contains (target_facts (l * STRIDE)) p ≡ true
  in_target p single h = sym (holds_known l p (single_is p single)) ∙ h

  target_one : (p q : Pair) → is_single one_valued p ≡ true → is_some q.value ≡ true → p.name ≡ q.name
      → holds l p ≡ true → holds l q ≡ true → p ≡ q
  target_one p q sp sq names hp hq =
      one_value (l * STRIDE) p q place_within sp sq names (in_target p sp hp)
      (in_target q (single_too p q names sp sq) hq)

  target_unix : holds l (family_name (codes "unix")) ≡ holds l (family_pair (codes "unix"))
  target_unix =
      holds_known l (family_name (codes "unix")) unix_is.0 ∙ unix_family (l * STRIDE)
      ∙ sym (holds_known l (family_pair (codes "unix")) unix_is.1)

  target_windows : holds l (family_name (codes "windows")) ≡ holds l (family_pair (codes "windows"))
  target_windows =
      holds_known l (family_name (codes "windows")) windows_is.0 ∙ windows_family (l * STRIDE)
      ∙ sym (holds_known l (family_pair (codes "windows")) windows_is.1)

  keeps_none : KeepsRules (holds_beside None l)
  keeps_none = record {
    one = λ p q sp sq names hp hq. target_one p q sp sq names (sym (beside_none l p) ∙ hp) (sym (beside_none l q) ∙ hq);
    unix = beside_none l (family_name (codes "unix")) ∙ target_unix
        ∙ sym (beside_none l (family_pair (codes "unix")));
    windows = beside_none l (family_name (codes "windows")) ∙ target_windows
        ∙ sym (beside_none l (family_pair (codes "windows")));
  }

  -- the same where a key with one value has this value alone, or none
  module _ (name : List ℕ) (only : Option (List ℕ)) (named : is_named name one_valued ≡ true) where
    is_only_one : (o v w : Option (List ℕ)) → is_only o v ≡ true → is_only o w ≡ true → v ≡ w
    is_only_one o None w hv hw = absurd (true≢false (sym hv))
    is_only_one None (Some v) w hv hw = absurd (true≢false (sym hv))
    is_only_one (Some o) (Some v) None hv hw = absurd (true≢false (sym hw))
    is_only_one (Some o) (Some v) (Some w) hv hw =
        ap Some ((bytes_eq-Decides v o).0 hv ∙ sym ((bytes_eq-Decides w o).0 hw))

    value_too : (p q : Pair) → p.name ≡ q.name → is_some q.value ≡ true → has_key name p ≡ true
        → has_key name q ≡ true
    value_too p q names sq is = λ i.
        sq i && (sym (ap (λ n. bytes_eq n name) names) ∙ right_true (is_some p.value) (bytes_eq p.name name) is) i

    with_one : (p q : Pair) → is_single one_valued p ≡ true → is_some q.value ≡ true → p.name ≡ q.name
        → holds_with name only l p ≡ true → holds_with name only l q ≡ true → p ≡ q
    with_one p q sp sq names hp hq =
        let sp_value = right_true (is_named p.name one_valued) (is_some p.value) sp in
        elim (has_key name p) as (λ b. has_key name p ≡ b → p ≡ q) [
          | true ↦ λ is.
              let also = value_too p q names sq is in
              let values : p.value ≡ q.value =
              is_only_one only p.value q.value (sym (with_key name only l p is) ∙ hp)
              (sym (with_key name only l q also) ∙ hq) in
              λ i. record { name = names i; value = values i }
          | false ↦ λ no.
              let other : has_key name q ≡ false =
              elim (has_key name q) as (λ b. has_key name q ≡ b → b ≡ false) [
                | true ↦ λ e. absurd (true≢false (sym (value_too q p (sym names) sp_value e) ∙ no))
                | false ↦ λ e. refl
              ] refl in
              target_one p q sp sq names (sym (with_others name only l p no) ∙ hp)
              (sym (with_others name only l q other) ∙ hq)
        ] refl

    no_family : (family : List ℕ) → has_key name (family_pair family) ≡ false
    no_family family =
        elim (bytes_eq (codes "target_family") name) as (λ b. bytes_eq (codes "target_family") name ≡ b → b ≡ false) [
          | true ↦ λ e.
              let is : codes "target_family" ≡ name = (bytes_eq-Decides (codes "target_family") name).0 e in
              let no : is_named (codes "target_family") one_valued ≡ false = refl in
              absurd (true≢false (sym (ap (λ n. is_named n one_valued) is ∙ named) ∙ no))
          | false ↦ λ e. refl
        ] refl

    keeps_with : KeepsRules (holds_with name only l)
    keeps_with = record {
      one = with_one;
      unix = with_others name only l (family_name (codes "unix")) refl ∙ target_unix
          ∙ sym (with_others name only l (family_pair (codes "unix")) (no_family (codes "unix")));
      windows = with_others name only l (family_name (codes "windows")) refl ∙ target_windows
          ∙ sym (with_others name only l (family_pair (codes "windows")) (no_family (codes "windows")));
    }

module _ (h : Pair → Bool) (ps : List Pair) (keeps : KeepsRules h) where
  held : (p : Pair) → contains (sample h ps) p ≡ true → h p ≡ true
  held p is = left_true (h p) (contains {R = pair_cmp} (from_list ps) p) (sym (in_sample h ps p) ∙ is)

  with_family : (family : List ℕ) → contains {R = pair_cmp} (from_list ps) (family_name family) ≡ true
      → contains {R = pair_cmp} (from_list ps) (family_pair family) ≡ true
      → h (family_name family) ≡ h (family_pair family) → IsSetWithFamily (sample h ps) family
  with_family family has_name has_pair same =
      in_sample h ps (family_name family) ∙ (λ i. same i && (has_name ∙ sym has_pair) i)
      ∙ sym (in_sample h ps (family_pair family))

  pub tried_are : contains {R = pair_cmp} (from_list ps) (family_name (codes "unix")) ≡ true
      → contains {R = pair_cmp} (from_list ps) (family_pair (codes "unix")) ≡ true
      → contains {R = pair_cmp} (from_list ps) (family_name (codes "windows")) ≡ true
      → contains {R = pair_cmp} (from_list ps) (family_pair (codes "windows")) ≡ true
      → IsRustcs (sample h ps)
  tried_are u up w wp = (
    λ p q sp sq names hp hq. inl (keeps.one p q sp sq names (held p hp) (held q hq)),
    (with_family (codes "unix") u up keeps.unix, with_family (codes "windows") w wp keeps.windows),
  )

-- ---- truths over them

abbrev families : List Pair
families =
    family_name (codes "unix") ∷ family_pair (codes "unix") ∷ family_name (codes "windows")
    ∷ family_pair (codes "windows") ∷ []

abbrev pairs_for : Tree → Tree → List Pair
pairs_for e d = families ++ map pair_of (values e ++ values d)

in_pairs : (ps : List Pair) (p : Pair) → Contains ps p → contains {R = pair_cmp} (from_list ps) p ≡ true
in_pairs ps p m = contains-from_list pairs_total ps p ∙ list_any-from_Contains (eq_by_cmp_equiv pairs_total) p ps m

mapped : (cs : List CfgValue) (c : CfgValue) → Contains cs c → Contains (map pair_of cs) (pair_of c)
mapped cs c (i, within, is) =
    let long : length (map pair_of cs) ≡ length cs = length-map cs pair_of in
    (i, omega arith, get_or-map pair_of cs i c (pair_of c) within ∙ ap pair_of is)

asked_for : (e d : Tree) (c : CfgValue) → Contains (values e ++ values d) c
    → contains {R = pair_cmp} (from_list (pairs_for e d)) (pair_of c) ≡ true
asked_for e d c m =
    in_pairs (pairs_for e d) (pair_of c)
    (Contains-append_right families (map pair_of (values e ++ values d)) (pair_of c)
    (mapped (values e ++ values d) c m))

family_at : (e d : Tree) (i : ℕ) (p : Pair) → i < 4 → get_or families i p ≡ p
    → contains {R = pair_cmp} (from_list (pairs_for e d)) p ≡ true
family_at e d i p within is =
    in_pairs (pairs_for e d) p
    (Contains-append_left families (map pair_of (values e ++ values d)) p (i, within, is))

truths_alike : (k : FactConstraints) (e d : Tree) (s : FactSet) → AllowsRustcs k → IsRustcs s
    → AreEquivalent k (Expression e) (Expression d) → truth s e ≡ truth s d
truths_alike k e d s allows is alike =
    let same = alike [] s ((allows s).1 is) in both_ways (truth s e) (truth s d) same.0 same.1

pub same_truths : (k : FactConstraints) (e d : Tree) → AllowsRustcs k → AreEquivalent k (Expression e) (Expression d)
    → (h : Pair → Bool) → KeepsRules h → truth_by h e ≡ truth_by h d
same_truths k e d allows alike h keeps =
    let ps = pairs_for e d in
    let s = sample h ps in
    let is : IsRustcs s =
    tried_are h ps keeps (family_at e d 0 (family_name (codes "unix")) (omega arith) refl)
    (family_at e d 1 (family_pair (codes "unix")) (omega arith) refl)
    (family_at e d 2 (family_name (codes "windows")) (omega arith) refl)
    (family_at e d 3 (family_pair (codes "windows")) (omega arith) refl) in
    sym (over_sample h ps e (λ c m. asked_for e d c (Contains-append_left (values e) (values d) c m)))
    ∙ truths_alike k e d s allows is alike
    ∙ over_sample h ps d (λ c m. asked_for e d c (Contains-append_right (values e) (values d) c m))

-- ---- numbers

mutual
  -- what tells the same of what a tree asks for makes it as true
  told_alike : (h g : Pair → Bool) (e : Tree) → ((c : CfgValue) → Contains (values e) c → h (pair_of c) ≡ g (pair_of c))
      → truth_by h e ≡ truth_by g e
  told_alike h g (Not e) each = ap not (told_alike h g e each)
  told_alike h g (All es) each = all_alike h g es each
  told_alike h g (Any es) each = any_alike h g es each
  told_alike h g (Value c) each = each c (Contains-push [] c)
  told_alike h g True each = refl
  told_alike h g False each = refl

  all_alike : (h g : Pair → Bool) (es : Trees)
      → ((c : CfgValue) → Contains (members_values es) c → h (pair_of c) ≡ g (pair_of c)) → all_by h es ≡ all_by g es
  all_alike h g none each = refl
  all_alike h g (tree e es) each =
      λ i. told_alike h g e (λ c m. each c (Contains-append_left (values e) (members_values es) c m)) i
      && all_alike h g es (λ c m. each c (Contains-append_right (values e) (members_values es) c m)) i

  any_alike : (h g : Pair → Bool) (es : Trees)
      → ((c : CfgValue) → Contains (members_values es) c → h (pair_of c) ≡ g (pair_of c)) → any_by h es ≡ any_by g es
  any_alike h g none each = refl
  any_alike h g (tree e es) each =
      λ i. told_alike h g e (λ c m. each c (Contains-append_left (values e) (members_values es) c m)) i
      || any_alike h g es (λ c m. each c (Contains-append_right (values e) (members_values es) c m)) i

-- a pair that is not the one tells the same, whether the key has the value of this one or none
not_only : (l : ℕ) (p q : Pair) → same_pair p q ≡ false
    → holds_with p.name p.value l q ≡ holds_with p.name None l q
not_only l p q other = elim (has_key p.name q) as (λ b. has_key p.name q ≡ b
    → holds_with p.name p.value l q ≡ holds_with p.name None l q) [
      | true ↦ λ is.
          with_key p.name p.value l q is
          ∙ only_others p q (right_true (is_some q.value) (bytes_eq q.name p.name) is) other
          ∙ sym (with_key p.name None l q is)
      | false ↦ λ no. with_others p.name p.value l q no ∙ sym (with_others p.name None l q no)
    ] refl

-- what is not asked for has no number
not_asked : (e : Tree) (p : Pair) → has_pair (map pair_of (values e)) p ≡ false → apart_of e p ≡ 0
not_asked e p missing =
    apart_none (truths_with p.name p.value e) (truths_with p.name None e) p
    (same_bits 64 (λ l. truth_by (holds_with p.name p.value l) e) (λ l. truth_by (holds_with p.name None l) e)
    (λ l low. told_alike (holds_with p.name p.value l) (holds_with p.name None l) e
    (λ c m. not_only l p (pair_of c)
    (fails_at (same_pair p) (map pair_of (values e)) (pair_of c) (mapped (values e) c m) missing))))

module _ (k : FactConstraints) (e d : Tree) (allows : AllowsRustcs k)
    (alike : AreEquivalent k (Expression e) (Expression d)) where
  named_is : (p : Pair) → is_unknown_value p ≡ true → is_named p.name one_valued ≡ true
  named_is p unknown =
      left_true (is_named p.name one_valued) (is_some p.value) (left_true (is_single one_valued p)
      (not (some_below COUNT (λ k. contains (target_facts k) p))) unknown)

  same_with : (name : List ℕ) (only : Option (List ℕ)) → is_named name one_valued ≡ true
      → truths_with name only e ≡ truths_with name only d
  same_with name only named =
      same_bits 64 (λ l. truth_by (holds_with name only l) e) (λ l. truth_by (holds_with name only l) d)
      (λ l low. same_truths k e d allows alike (holds_with name only l) (keeps_with l low name only named))

  same_apart : (p : Pair) → is_unknown_value p ≡ true → apart_of e p ≡ apart_of d p
  same_apart p unknown =
      let named = named_is p unknown in
      λ i. apart (same_with p.name p.value named i) (same_with p.name None named i) p

  unknown_there : (x : Tree) (p : Pair) → has_pair (unknown_values x) p ≡ true → is_unknown_value p ≡ true
  unknown_there x p is =
      each_unknown [] (map pair_of (values x)) p (λ h. absurd (true≢false (sym h))) is

  not_among : (x : Tree) (p : Pair) → is_unknown_value p ≡ true → has_pair (unknown_values x) p ≡ false
      → has_pair (map pair_of (values x)) p ≡ false
  not_among x p unknown missing =
      elim (has_pair (map pair_of (values x)) p) as (λ b. has_pair (map pair_of (values x)) p ≡ b → b ≡ false) [
        | true ↦ λ is. absurd (true≢false (sym (all_found [] (map pair_of (values x)) p unknown is) ∙ missing))
        | false ↦ λ no. refl
      ] refl

  pub same_sum : summed (apart_of e) 0 (unknown_values e) ≡ summed (apart_of d) 0 (unknown_values d)
  same_sum =
      same_total_word (apart_of e) (unknown_values e) (unknown_values d)
      (same_total (apart_of e) (unknown_values e) (unknown_values d)
      (each_distinct [] (map pair_of (values e)) tt) (each_distinct [] (map pair_of (values d)) tt)
      (λ p is missing. let unknown = unknown_there e p is in
      same_apart p unknown ∙ not_asked d p (not_among d p unknown missing))
      (λ p is missing. not_asked e p (not_among e p (unknown_there d p is) missing)))
      ∙ same_at (apart_of e) (apart_of d) 0 (unknown_values d) (λ p is. same_apart p (unknown_there d p is))

-- ---- classes

bit_of : (words : List ℕ) (j l : ℕ) → l < 64 → has words (64 * j + l) ≡ is_set (get_or words j 0) l
unfolding has
bit_of words j l below =
    let word : (64 * j + l) / 64 ≡ j = omega arith in
    let bit : (64 * j + l) % 64 ≡ l = omega arith in
    λ i. nat_eq (bit_at (get_or words (word i) 0) (bit i)) 1

module _ (k : FactConstraints) (e d : Tree) (allows : AllowsRustcs k)
    (alike : AreEquivalent k (Expression e) (Expression d))
    (x y : Class) (first : IsClassOf e x) (second : IsClassOf d y) where
  at_place : (t : ℕ) → has x.targets t ≡ has y.targets t
  at_place t = elim (cases_lt t COUNT) [
    | inl below ↦
        first.at_targets t below ∙ truths_alike k e d (target_facts t) allows (targets_are t below) alike
        ∙ sym (second.at_targets t below)
    | inr past ↦ first.behind t past ∙ sym (second.behind t past)
  ]

  target_word : (j : ℕ) → get_or x.targets j 0 ≡ get_or y.targets j 0
  target_word j =
      same_word (get_or x.targets j 0) (get_or y.targets j 0) (first.small j) (second.small j)
      (λ l low. sym (bit_of x.targets j l low) ∙ at_place (64 * j + l) ∙ bit_of y.targets j l low)

  same_targets : x.targets ≡ y.targets
  same_targets = ext_get_or 0 x.targets y.targets (first.long ∙ sym second.long) (λ j within. target_word j)

  sample_word : x.truths ≡ y.truths
  sample_word =
      same_word x.truths y.truths first.small_truths second.small_truths
      (λ l low. first.over_samples l low
      ∙ same_truths k e d allows alike (holds_beside None l) (keeps_none l low) ∙ sym (second.over_samples l low))

  pub same_class : x ≡ y
  same_class = λ i. record {
    targets = same_targets i;
    truths = sample_word i;
    part = (first.whole ∙ sym second.whole) i;
  }

-- ---- what is compared

module _ (k : FactConstraints) (keys : Keys) (c : Condition) (allows : AllowsRustcs k) (classed : AreClassed keys) where
  found_among : (n : ℕ) (ns : List ℕ) → NoneIsEquivalent k keys c ns → Contains ns n → (m : Member)
      → IsMemberAt keys m n → AreEquivalent k (condition_of m.1.now) c → ⊥
  found_among n ns none_is (i, within, is) m at alike =
      none_is i n within m (subst (IsMemberAt keys m) (sym is) at) alike

  -- where both have a number, the member stands in the part of this number
  among_part : (e d : Tree) (class : Class) (number its : Option ℕ) (n : ℕ)
      → AreEquivalent k (Expression d) (Expression e) → IsNumberOf e number → IsNumberOf d its
      → AreUnlike k keys c class number → Contains (places_of keys class) n
      → Contains (places_of keys (part_of class its)) n → (m : Member) → IsMemberAt keys m n
      → AreEquivalent k (condition_of m.1.now) c → ⊥
  among_part e d class None its n both first second unlike in_class in_part m at alike =
      found_among n (places_of keys class) unlike in_class m at alike
  among_part e d class (Some number) None n both first second unlike in_class in_part m at alike =
      found_among n (places_of keys (part_of class None)) unlike.1 in_part m at alike
  among_part e d class (Some number) (Some its) n both first second unlike in_class in_part m at alike =
      let same : its ≡ number = second ∙ same_sum k d e allows both ∙ sym first in
      found_among n (places_of keys (part_of class (Some number))) unlike.0
      (subst (λ (x : ℕ). Contains (places_of keys (part_of class (Some x))) n) same in_part) m at alike

  pub none_missed : (e : Tree) (class : Class) (number : Option ℕ) → IsClassOf e class → IsNumberOf e number
      → AreUnlike k keys c class number → c ≡ Expression e → (m : Member) (n : ℕ)
      → IsMemberAt keys m n → AreEquivalent k (condition_of m.1.now) c → ⊥
  none_missed e class number is_class is_number unlike is_tree m n at alike =
      let its = classed m n at in
      let both : AreEquivalent k (Expression its.tree) (Expression e) =
      subst (λ (x : Condition). AreEquivalent k x (Expression e)) its.is_tree
      (subst (λ (x : Condition). AreEquivalent k (condition_of m.1.now) x) is_tree alike) in
      let same : its.class ≡ class = same_class k its.tree e allows both its.class class its.is_class is_class in
      among_part e its.tree class number its.number n both is_number its.is_number unlike
      (subst (λ (x : Class). Contains (places_of keys x) n) same its.in_class)
      (subst (λ (x : Class). Contains (places_of keys (part_of x its.number)) n) same its.in_part) m at alike

-- ---- the order of classes

abbrev part_cmp : Part → Part → Ordering
part_cmp = (part_ord.ghosts).cmp

both_equal : (o p : Ordering) → ordering_then o p ≡ Equal → (o ≡ Equal) × (p ≡ Equal)
both_equal Less p h = cc
both_equal Equal p h = (refl, h)
both_equal Greater p h = cc

exact_parts : (a b : Part) → part_cmp a b ≡ Equal → a ≡ b
exact_parts parts.All parts.All h = refl
exact_parts parts.All (parts.Numbered n) h = cc
exact_parts parts.All parts.NotNumbered h = cc
exact_parts (parts.Numbered m) parts.All h = cc
exact_parts (parts.Numbered m) (parts.Numbered n) h = ap parts.Numbered (exact_unsigned m n h)
exact_parts (parts.Numbered m) parts.NotNumbered h = cc
exact_parts parts.NotNumbered parts.All h = cc
exact_parts parts.NotNumbered (parts.Numbered n) h = cc
exact_parts parts.NotNumbered parts.NotNumbered h = refl

-- classes that are equal in it are the same
exact_classes : (a b : Class) → class_cmp a b ≡ Equal → a ≡ b
exact_classes a b h =
    let first = both_equal (slice_cmp nat_cmp a.targets b.targets) _ h in
    let others = both_equal (nat_cmp a.truths b.truths) _ first.1 in
    λ i. record {
      targets = exact_bytes a.targets b.targets first.0 i;
      truths = exact_unsigned a.truths b.truths others.0 i;
      part = exact_parts a.part b.part others.1 i;
    }

-- ---- one more member

pub puts : (old new : ClassMap) (class : Class) (n : ℕ) (before : Option (Vec ℕ Global)) (v : Vec ℕ Global)
    → ordered.get class_cmp old class ≡ before → v.items ≡ places_in before ++ n ∷ []
    → ((q : Class) → ordered.get class_cmp new q
    ≡ cond (is_eq (class_cmp class q)) (Some v) (ordered.get class_cmp old q))
    → PutsIn old new class n
puts old new class n before v was items updates q =
    let is = is_eq (class_cmp class q) in
    let there = ordered.get class_cmp old q in
    elim is as (λ b. is ≡ b → places_in (ordered.get class_cmp new q)
    ≡ places_in there ++ cond b (n ∷ []) []) [
      | true ↦ λ h.
          let same : class ≡ q = exact_classes class q ((Equal-is (class_cmp class q)).0 h) in
          ap places_in (updates q ∙ ap (λ b. cond b (Some v) there) h) ∙ items
          ∙ ap (λ (o : Option (Vec ℕ Global)). places_in o ++ n ∷ [])
          (sym was ∙ ap (ordered.get class_cmp old) same)
      | false ↦ λ h.
          ap places_in (updates q ∙ ap (λ b. cond b (Some v) there) h) ∙ sym (append-nil (places_in there))
    ] refl

module _ (old new : Keys) (m : Member) (class : Class) (number : Option ℕ) (e : Tree)
    (puts_it : PutsMember old new m class number) (tree : condition_of m.1.now ≡ Expression e)
    (is_class : IsClassOf e class) (is_number : IsNumberOf e number)
    (before : AreClassed old) where
  long : length new.members.items ≡ length old.members.items + 1
  long = ap length puts_it.pushed ∙ length-append old.members.items (m ∷ [])

  earlier : (x : Member) (n : ℕ) → n < length old.members.items → IsMemberAt new x n → IsMemberAt old x n
  earlier x n within at = (
    within,
    λ other. sym (get_or_append_left old.members.items (m ∷ []) other n within)
        ∙ sym (ap (λ (xs : List Member). get_or xs n other) puts_it.pushed) ∙ at.1 other,
  )

  kept_classed : (x : Member) (n : ℕ) → IsClassed old x n → IsClassed new x n
  kept_classed x n its = record {
    tree = its.tree;
    is_tree = its.is_tree;
    class = its.class;
    number = its.number;
    is_class = its.is_class;
    is_number = its.is_number;
    in_class = puts_it.kept its.class n its.in_class;
    in_part = puts_it.kept (part_of its.class its.number) n its.in_part;
  }

  last_is : (x : Member) (n : ℕ) → n ≡ length old.members.items → IsMemberAt new x n → m ≡ x
  last_is x n last at =
      sym (ap (λ j. get_or (old.members.items ++ m ∷ []) j m) last ∙ get_or-append_seam old.members.items m [] m)
      ∙ sym (ap (λ (xs : List Member). get_or xs n m) puts_it.pushed) ∙ at.1 m

  pub classed_more : AreClassed new
  classed_more x n at = elim (cases_lt n (length old.members.items)) [
    | inl within ↦ kept_classed x n (before x n (earlier x n within at))
    | inr past ↦
        let inside : n < length new.members.items = at.0 in
        let last : n ≡ length old.members.items = omega (arith, long) in
        let here : IsClassed new m n = record {
          tree = e;
          is_tree = tree;
          class = class;
          number = number;
          is_class = is_class;
          is_number = is_number;
          in_class = subst (Contains (places_of new class)) (sym last) puts_it.in_class;
          in_part = subst (Contains (places_of new (part_of class number))) (sym last) puts_it.in_part;
        } in
        subst (λ (y : Member). IsClassed new y n) (last_is x n last at) here
  ]

-- ---- classes of expressions

module _ (ws : List ℕ) (t : ℕ) (set : TargetSet) (e : Tree) (c : Condition)
    (long : length ws ≡ SET_WORDS) (small : (i : ℕ) → get_or ws i 0 < 2 ^ 64) (small_truths : t < 2 ^ 64)
    (same : (k : ℕ) → k < COUNT → has ws k ≡ is_member set k) (behind : (k : ℕ) → COUNT ≤ k → has ws k ≡ false)
    (holds_at : (k : ℕ) → k < COUNT
    → IsTrue (is_member set k) ↔ IsTrueCondition (target_name k) (target_facts k) c)
    (tree : c ≡ Expression e) (truths : AreTruths (holds_beside None) e t) where
  at_targets : (k : ℕ) → k < COUNT → has ws k ≡ truth (target_facts k) e
  at_targets k within =
      let is = subst (λ (x : Condition). IsTrue (is_member set k) ↔ IsTrueCondition (target_name k) (target_facts k) x)
      tree (holds_at k within) in
      same k within ∙ both_ways (is_member set k) (truth (target_facts k) e) is.0 is.1

  pub class_is : IsClassOf e (record { targets = ws; truths = t; part = parts.All })
  class_is = record {
    long = long;
    small = small;
    at_targets = at_targets;
    behind = behind;
    small_truths = small_truths;
    over_samples = truths;
    whole = refl;
  }

-- ---- what is told of a class and its part

pub among_some : {E : Type 0} (k : FactConstraints) (keys : Keys) (c : Condition) (class : Class) (number : Option ℕ)
    (n : ℕ)
    (r : Result Earlier E) → number ≡ Some n → IfOk r (TellsUnlike k keys c (part_of class number))
    → IfOk r (TellsUnlike k keys c (part_of class None))
    → IfOk r (λ a. IsTrue (is_unlike a) → AreUnlike k keys c class number)
among_some k keys c class number n (Ok a) is first second = λ so.
    subst (AreUnlike k keys c class) (sym is)
    (subst (λ (o : Option ℕ). NoneIsEquivalent k keys c (places_of keys (part_of class o))) is (first so), second so)
among_some k keys c class number n (Err e) is first second = tt

pub among_none : {E : Type 0} (k : FactConstraints) (keys : Keys) (c : Condition) (class : Class) (number : Option ℕ)
    (r : Result Earlier E) → number ≡ None → IfOk r (TellsUnlike k keys c class)
    → IfOk r (λ a. IsTrue (is_unlike a) → AreUnlike k keys c class number)
among_none k keys c class number (Ok a) is told = λ so. subst (AreUnlike k keys c class) (sym is) (told so)
among_none k keys c class number (Err e) is told = tt

-- ---- members that are put

in_its_own : (old new : ClassMap) (class : Class) (n : ℕ) → PutsIn old new class n
    → Contains (places_in (ordered.get class_cmp new class)) n
in_its_own old new class n put =
    let before = places_in (ordered.get class_cmp old class) in
    subst (λ ns. Contains ns n)
    (sym (put class
    ∙ ap (λ b. before ++ cond b (n ∷ []) []) ((eq_by_cmp_equiv class_laws.total-law).refl class)))
    (Contains-push before n)

still_in : (old new : ClassMap) (class q : Class) (n j : ℕ) → PutsIn old new class n
    → Contains (places_in (ordered.get class_cmp old q)) j
    → Contains (places_in (ordered.get class_cmp new q)) j
still_in old new class q n j put there =
    subst (λ ns. Contains ns j) (sym (put q))
    (Contains-append_left (places_in (ordered.get class_cmp old q))
    (cond (is_eq (class_cmp class q)) (n ∷ []) []) j there)

pub puts_member : {A E : Type 0} (r : Result A E) (old new : Keys) (mid : ClassMap) (m : Member) (class : Class)
    (number : Option ℕ) (n : ℕ) → new.members.items ≡ old.members.items ++ m ∷ [] → n ≡ length old.members.items
    → PutsIn old.classes mid class n → OnOk r (PutsIn mid new.classes (part_of class number) n)
    → OnOk r (PutsMember old new m class number)
puts_member (Ok x) old new mid m class number n pushed last first second = record {
  pushed = pushed;
  kept = λ q j there. still_in mid new.classes (part_of class number) q n j second
      (still_in old.classes mid class q n j first there);
  in_class = subst (Contains (places_of new class)) last
      (still_in mid new.classes (part_of class number) class n n second (in_its_own old.classes mid class n first));
  in_part = subst (Contains (places_of new (part_of class number))) last
      (in_its_own mid new.classes (part_of class number) n second);
}
puts_member (Err e) old new mid m class number n pushed last first second = tt

-- ---- what notes a condition moves no member

member_too : (old new : Keys) (m : Member) (n : ℕ) → new.members.items ≡ old.members.items → IsMemberAt new m n
    → IsMemberAt old m n
member_too old new m n same =
    subst (λ (xs : List Member). (n < length xs) × ((other : Member) → get_or xs n other ≡ m)) same

pub same_classed : (old new : Keys) → new.members.items ≡ old.members.items → new.classes ≡ old.classes
    → AreClassed old → AreClassed new
same_classed old new members classes before m n at =
    let its = before m n (member_too old new m n members at) in
    record {
      tree = its.tree;
      is_tree = its.is_tree;
      class = its.class;
      number = its.number;
      is_class = its.is_class;
      is_number = its.is_number;
      in_class = subst (λ (x : ClassMap). Contains (places_in (ordered.get class_cmp x its.class)) n)
          (sym classes) its.in_class;
      in_part = subst (λ (x : ClassMap).
          Contains (places_in (ordered.get class_cmp x (part_of its.class its.number))) n)
          (sym classes) its.in_part;
    }

pub same_unlike : {E : Type 0} (k : FactConstraints) (old new : Keys) (c : Condition) (r : Result Earlier E)
    → new.members.items ≡ old.members.items → IfOk r (TellsNoneEquivalent k new c)
    → IfOk r (TellsNoneEquivalent k old c)
same_unlike k old new c (Ok a) same told = λ so e is_tree m n at.
    told so e is_tree m n (member_too new old m n (sym same) at)
same_unlike k old new c (Err e) same told = tt
