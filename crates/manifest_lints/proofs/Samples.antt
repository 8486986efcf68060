-- Truths over the sets of facts that are tried.
use Rattle.std.proofs.Common.{◌≡◌, ◌∙◌, refl, sym, ap, ℕ, ◌*◌, ◌<◌, Bool, true, false, true≢false, not, ◌&&◌}
use Rattle.std.proofs.Common.{◌||◌, List, [], ◌∷◌, ◌++◌, cond, Option, Some, None}
use Rattle.std.specs.Prelude.{Contains}
use Rattle.std.specs.List.{filter}
use Rattle.std.specs.Ordering.{eq_by_cmp}
use Rattle.std.specs.Cmp.{Equal-is, both_ways}
use Rattle.std.specs.FinSet.{contains, from_list, contains-from_list}
use Rattle.std.proofs.lemmas.Map.Views.{any-filter_same}
use Rattle.std.proofs.lemmas.List.Elements.{Contains-append_left, Contains-append_right, Contains-push}
use Rattle.std.proofs.Math.Path.{fun_ext}
use Rattle.cargo_platform.specs.Trees.{CfgValue, Tree, Not, All, Any, Value, True, False, Trees, none, tree, trees_of}
use Rattle.cargo_platform.specs.Facts.{Pair, FactSet, pair_of, pair_cmp, truth, all_true, any_true}
use Rattle.cargo_platform.specs.Walk.{list_tree}
use Rattle.cargo_platform.specs.Warnings.{values, members_values}
use Rattle.cargo_platform.proofs.FactSets.{pairs_total}
use Rattle.cargo_platform.proofs.FactTruths.{pair_tie}
use Rattle.partial_facts.specs.OneValued.{is_single, has_key}
use Rattle.known_targets.specs.Groups.{both}
use Rattle.known_targets.specs.Listed.{some_below}
use Rattle.known_targets.specs.Table.{target_facts}
use Rattle.known_targets.specs.declared.table.TheConstants.{COUNT}
use Rattle.known_targets.proofs.Listed.{some_none, none_some}
use Rattle.manifest_lints.specs.Samples.{truth_by, all_by, any_by, one_valued, is_rustcs, holds}
use Rattle.manifest_lints.specs.Samples.{is_set, mixed_truths, holds_with, holds_beside, is_only, text_of}
use Rattle.manifest_lints.specs.Numbers.{is_unknown_value}
use Rattle.manifest_lints.proofs.SetWords.{right_true}
use Rattle.manifest_lints.specs.declared.sample_sets.Other.{Other}
use Rattle.manifest_lints.specs.declared.sample_sets.TheConstants.{STRIDE}

-- ---- groups

and_true : (a : Bool) → (a && true) ≡ a
and_true true = refl
and_true false = refl

pub or_false : (a : Bool) → (a || false) ≡ a
or_false true = refl
or_false false = refl

and_assoc : (a b c : Bool) → ((a && b) && c) ≡ (a && (b && c))
and_assoc true b c = refl
and_assoc false b c = refl

pub or_assoc : (a b c : Bool) → ((a || b) || c) ≡ (a || (b || c))
or_assoc true b c = refl
or_assoc false b c = refl

pub no_member : (n : Bool) (h : Pair → Bool) → n ≡ truth_by h (list_tree n [])
no_member true h = refl
no_member false h = refl

pub one_more : (n : Bool) (h : Pair → Bool) (es : List Tree) (e : Tree)
    → both n (truth_by h (list_tree n es)) (truth_by h e) ≡ truth_by h (list_tree n (es ++ e ∷ []))
one_more true h [] e = sym (and_true (truth_by h e))
one_more false h [] e = sym (or_false (truth_by h e))
one_more true h (m ∷ es) e =
    and_assoc (truth_by h m) (all_by h (trees_of es)) (truth_by h e)
    ∙ ap (λ b. truth_by h m && b) (one_more true h es e)
one_more false h (m ∷ es) e =
    or_assoc (truth_by h m) (any_by h (trees_of es)) (truth_by h e)
    ∙ ap (λ b. truth_by h m || b) (one_more false h es e)

-- ---- what is rustc's

pub not_true : (b : Bool) → not b ≡ true → b ≡ false
not_true true h = sym h
not_true false h = refl

pub single_is : (p : Pair) → is_single one_valued p ≡ true → is_rustcs p ≡ true
single_is p is = ap (λ b. b || some_below COUNT (λ k. contains (target_facts k) p)) is

pub not_rustcs : (p : Pair) → is_single one_valued p ≡ false
    → ((k : ℕ) → k < COUNT → contains (target_facts k) p ≡ false) → is_rustcs p ≡ false
not_rustcs p apart missing =
    ap (λ b. b || some_below COUNT (λ k. contains (target_facts k) p)) apart
    ∙ none_some COUNT (λ k. contains (target_facts k) p) missing

-- of a key with one value, a value that none has
pub unknown_is : (p : Pair) (is_empty : Bool) → is_single one_valued p ≡ true
    → (is_empty ≡ true → (k : ℕ) → k < COUNT → contains (target_facts k) p ≡ false)
    → (((k : ℕ) → k < COUNT → contains (target_facts k) p ≡ false) → is_empty ≡ true)
    → is_empty ≡ is_unknown_value p
unknown_is p is_empty single none_has back =
    both_ways is_empty (is_unknown_value p)
    (λ h i. single i && not (none_some COUNT (λ k. contains (target_facts k) p) (none_has h) i))
    (λ h. back (some_none COUNT (λ k. contains (target_facts k) p)
    (not_true (some_below COUNT (λ k. contains (target_facts k) p))
    (right_true (is_single one_valued p) (not (some_below COUNT (λ k. contains (target_facts k) p))) h))))

pub single_not : (p : Pair) → is_single one_valued p ≡ false → is_unknown_value p ≡ false
single_not p is = ap (λ b. b && not (some_below COUNT (λ k. contains (target_facts k) p))) is

pub or_right : (a b : Bool) → b ≡ true → (a || b) ≡ true
or_right true b h = refl
or_right false b h = h

pub had_is : (p : Pair) (is_empty : Bool) → is_empty ≡ false
    → (((k : ℕ) → k < COUNT → contains (target_facts k) p ≡ false) → is_empty ≡ true) → is_rustcs p ≡ true
had_is p is_empty some all =
    let had = some_below COUNT (λ k. contains (target_facts k) p) in
    or_right (is_single one_valued p) had
    (elim had as (λ b. had ≡ b → had ≡ true) [
      | true ↦ λ e. e
      | false ↦ λ e.
          absurd (true≢false (sym (all (some_none COUNT (λ k. contains (target_facts k) p) e)) ∙ some))
    ] refl)

pub holds_known : (l : ℕ) (p : Pair) → is_rustcs p ≡ true → holds l p ≡ contains (target_facts (l * STRIDE)) p
unfolding holds
holds_known l p is = ap (λ b. cond b (contains (target_facts (l * STRIDE)) p) (is_set (mixed_truths p) l)) is

pub holds_mixed : (l : ℕ) (p : Pair) → is_rustcs p ≡ false → holds l p ≡ is_set (mixed_truths p) l
unfolding holds
holds_mixed l p is = ap (λ b. cond b (contains (target_facts (l * STRIDE)) p) (is_set (mixed_truths p) l)) is

-- ---- a key with another value

pub beside_none : (l : ℕ) (p : Pair) → holds_beside None l p ≡ holds l p
unfolding holds_beside
beside_none l p = refl

pub with_others : (name : List ℕ) (only : Option (List ℕ)) (l : ℕ) (p : Pair) → has_key name p ≡ false
    → holds_with name only l p ≡ holds l p
unfolding holds_with
with_others name only l p is = ap (λ b. cond b (is_only only p.value) (holds l p)) is

pub with_key : (name : List ℕ) (only : Option (List ℕ)) (l : ℕ) (p : Pair) → has_key name p ≡ true
    → holds_with name only l p ≡ is_only only p.value
unfolding holds_with
with_key name only l p is = ap (λ b. cond b (is_only only p.value) (holds l p)) is

pub beside_some : (o : Other) (l : ℕ) (p : Pair)
    → holds_beside (Some o) l p ≡ holds_with o.key.now (text_of o.value) l p
unfolding holds_beside
beside_some o l p = refl

pub beside_truth : (o : Other) (l : ℕ) (e : Tree)
    → truth_by (holds_beside (Some o) l) e ≡ truth_by (holds_with o.key.now (text_of o.value) l) e
beside_truth o l e = ap (λ h. truth_by h e) (fun_ext (beside_some o l))

-- ---- the set of those of some pairs that hold

abbrev pub sample : (Pair → Bool) → List Pair → FactSet
sample h ps = from_list (filter h ps)

tied : (p q : Pair) → eq_by_cmp pair_cmp p q ≡ true → p ≡ q
tied p q same = pair_tie p q ((Equal-is (pair_cmp p q)).0 same)

pub in_sample : (h : Pair → Bool) (ps : List Pair) (p : Pair)
    → contains (sample h ps) p ≡ (h p && contains {R = pair_cmp} (from_list ps) p)
in_sample h ps p =
    contains-from_list pairs_total (filter h ps) p
    ∙ any-filter_same (eq_by_cmp pair_cmp p) h (h p) (λ q same. ap h (sym (tied p q same))) ps
    ∙ ap (λ b. h p && b) (sym (contains-from_list pairs_total ps p))

mutual
  -- over it a tree of these pairs is as true
  pub over_sample : (h : Pair → Bool) (ps : List Pair) (e : Tree)
      → ((c : CfgValue) → Contains (values e) c → contains {R = pair_cmp} (from_list ps) (pair_of c) ≡ true)
      → truth (sample h ps) e ≡ truth_by h e
  over_sample h ps (Not e) each = ap not (over_sample h ps e each)
  over_sample h ps (All es) each = all_over h ps es each
  over_sample h ps (Any es) each = any_over h ps es each
  over_sample h ps (Value c) each =
      in_sample h ps (pair_of c) ∙ ap (λ b. h (pair_of c) && b) (each c (Contains-push [] c))
      ∙ and_true (h (pair_of c))
  over_sample h ps True each = refl
  over_sample h ps False each = refl

  all_over : (h : Pair → Bool) (ps : List Pair) (es : Trees)
      → ((c : CfgValue) → Contains (members_values es) c → contains {R = pair_cmp} (from_list ps) (pair_of c) ≡ true)
      → all_true (sample h ps) es ≡ all_by h es
  all_over h ps none each = refl
  all_over h ps (tree e es) each =
      λ i. over_sample h ps e (λ c m. each c (Contains-append_left (values e) (members_values es) c m)) i
      && all_over h ps es (λ c m. each c (Contains-append_right (values e) (members_values es) c m)) i

  any_over : (h : Pair → Bool) (ps : List Pair) (es : Trees)
      → ((c : CfgValue) → Contains (members_values es) c → contains {R = pair_cmp} (from_list ps) (pair_of c) ≡ true)
      → any_true (sample h ps) es ≡ any_by h es
  any_over h ps none each = refl
  any_over h ps (tree e es) each =
      λ i. over_sample h ps e (λ c m. each c (Contains-append_left (values e) (members_values es) c m)) i
      || any_over h ps es (λ c m. each c (Contains-append_right (values e) (members_values es) c m)) i
