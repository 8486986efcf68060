-- Classes, and the parts that a set makes of them.
use Rattle.std.proofs.Common.{◌≡◌, refl, sym, ◌∙◌, ap, subst, ℕ, ◌+◌, ◌<◌, ◌≤◌, Bool, true, false, not, ◌&&◌, cond}
use Rattle.std.proofs.Common.{List, []}
use Rattle.std.proofs.Common.{◌∷◌, ◌++◌, length, get_or, take, arith, inl, inr, Some}
use Rattle.std.specs.Prelude.{All, Contains}
use Rattle.std.proofs.lemmas.Bool.{and_parts, and_from, both_ways}
use Rattle.std.proofs.lemmas.List.{take_all, take_more}
use Rattle.std.proofs.lemmas.List.Sums.{sum_by-append, sum_by_more}
use Rattle.std.proofs.lemmas.List.Elements.{All-nil, All-push, All-pop, All-same, Contains-get_or}
use Rattle.known_targets.specs.Sets.{is_member}
use Rattle.known_targets.specs.declared.table.TheConstants.{COUNT}
use Rattle.known_targets.specs.declared.target_set.TargetSet.{TargetSet}
use Rattle.known_targets.specs.Classes.{IsEmpty, times_in, IsClass, AreClasses}
use Rattle.known_targets.specs.Parts.{IsPart, IsPartOfOne, AddsPart, AddsParts, AreParts, ArePartsSoFar}

-- ---- one part

-- a sum of one number is that number
with_one : (n m : ℕ) → n + (0 + m) ≡ n + m
with_one n m = omega arith

with_none : (n : ℕ) → n ≡ n + 0
with_none n = omega arith

pub part_counted : (old new : List TargetSet) (part : TargetSet) (k : ℕ) → k < COUNT → AddsPart old new part
    → times_in new k ≡ times_in old k + cond (is_member part k) 1 0
part_counted old new part k known (inl is) =
    ap (λ (xs : List TargetSet). times_in xs k) is.0
    ∙ sum_by-append (λ (s : TargetSet). cond (is_member s k) 1 0) old (part ∷ [])
    ∙ with_one (times_in old k) (cond (is_member part k) 1 0)
part_counted old new part k known (inr none) =
    ap (λ (xs : List TargetSet). times_in xs k) none.0
    ∙ with_none (times_in old k)
    ∙ ap (λ (b : Bool). times_in old k + cond {A = ℕ} b 1 0) (sym (none.1 k known))

pub part_sound : (set : TargetSet) (classes old new : List TargetSet) (part : TargetSet) → AddsPart old new part
    → ((IsEmpty part → ⊥) → IsPartOfOne set classes part) → All (λ p. IsPartOfOne set classes p) old
    → All (λ p. IsPartOfOne set classes p) new
part_sound set classes old new part (inl is) this before =
    All-same (λ p. IsPartOfOne set classes p) new (old ++ part ∷ []) is.0
    (All-push (λ p. IsPartOfOne set classes p) old part before (this is.1))
part_sound set classes old new part (inr none) this before =
    All-same (λ p. IsPartOfOne set classes p) new old none.0 before

-- ---- both parts of a class

part_of : (set class part : TargetSet) (classes : List TargetSet) → Contains classes class → IsPart set class part
    → IsPartOfOne set classes part
part_of set class part classes (i, below, at) is = (i, class, below, at, is)

-- a target of the class is in one of both parts
halves : (c s : Bool) (n : ℕ) → (n + cond (c && s) 1 0) + cond (c && not s) 1 0 ≡ n + cond c 1 0
halves true true n = omega arith
halves true false n = omega arith
halves false s n = omega arith

pub both_parts : (set class inside outside rest : TargetSet) (old between new : List TargetSet)
    → ((k : ℕ) → k < COUNT → is_member inside k ≡ (is_member class k && is_member set k))
    → ((k : ℕ) → k < COUNT → is_member rest k ≡ not (is_member set k))
    → ((k : ℕ) → k < COUNT → is_member outside k ≡ (is_member class k && is_member rest k))
    → AddsPart old between inside → AddsPart between new outside → AddsParts set class old new
both_parts set class inside outside rest old between new ins complement outs first second =
    let out : (k : ℕ) → k < COUNT → is_member outside k ≡ (is_member class k && not (is_member set k)) =
    λ k known. outs k known ∙ ap (λ (b : Bool). is_member class k && b) (complement k known) in
    record {
      counted = λ k known.
          part_counted between new outside k known second
          ∙ ap (λ n. n + cond (is_member outside k) 1 0) (part_counted old between inside k known first)
          ∙ ap (λ (b : Bool). (times_in old k + cond b 1 0) + cond (is_member outside k) 1 0) (ins k known)
          ∙ ap (λ (b : Bool). (times_in old k + cond (is_member class k && is_member set k) 1 0) + cond b 1 0)
          (out k known)
          ∙ halves (is_member class k) (is_member set k) (times_in old k);
      sound = λ classes listed before.
          part_sound set classes between new outside second
          (λ some. part_of set class outside classes listed (record { is_inside = false; members = out; some = some }))
          (part_sound set classes old between inside first
          (λ some. part_of set class inside classes listed (record { is_inside = true; members = ins; some = some }))
          before);
    }

pub parts_more : (set : TargetSet) (classes old new : List TargetSet) (i : ℕ) (d : TargetSet) → i < length classes
    → AddsParts set (get_or classes i d) old new → ArePartsSoFar set classes old i
    → ArePartsSoFar set classes new (i + 1)
parts_more set classes old new i d below adds before = record {
  sound = adds.sound classes (Contains-get_or classes i d below) before.sound;
  counted = λ k known.
      adds.counted k known
      ∙ ap (λ n. n + cond (is_member (get_or classes i d) k) 1 0) (before.counted k known)
      ∙ sym (sum_by_more (λ (s : TargetSet). cond (is_member s k) 1 0) classes i d below);
}

pub no_parts : (set : TargetSet) (classes parts : List TargetSet) → parts ≡ [] → ArePartsSoFar set classes parts 0
no_parts set classes parts none = record {
  sound = All-same (λ p. IsPartOfOne set classes p) parts [] none (All-nil (λ p. IsPartOfOne set classes p));
  counted = λ k known. ap (λ (xs : List TargetSet). times_in xs k) none;
}

pub all_parts : (set : TargetSet) (classes parts : List TargetSet) (n : ℕ) → length classes ≤ n
    → ArePartsSoFar set classes parts n → AreParts set classes parts
all_parts set classes parts n past so_far = record {
  sound = so_far.sound;
  counted = λ k known.
      so_far.counted k known ∙ ap (λ (xs : List TargetSet). times_in xs k) (take_all n classes past);
}

-- ---- all classes

same_side : (b x y : Bool) → cond b x (not x) ≡ true → cond b y (not y) ≡ true → x ≡ y
same_side true x y p q = p ∙ sym q
same_side false true true p q = refl
same_side false true false p q = absurd cc
same_side false false true p q = absurd cc
same_side false false false p q = refl

part_class : (sets : List TargetSet) (set class part : TargetSet) → IsClass sets class → IsPart set class part
    → IsClass (sets ++ set ∷ []) part
part_class sets set class part is p j k known other here =
    let side : Bool → Bool = λ x. cond p.is_inside x (not x) in
    let at = and_parts (is_member class j) (side (is_member set j)) (sym (p.members j known) ∙ here) in
    let beside = is j k known other at.0 in (
      λ there.
          let on = and_parts (is_member class k) (side (is_member set k)) (sym (p.members k other) ∙ there) in
          All-push (λ s. is_member s j ≡ is_member s k) sets set (beside.0 on.0)
          (same_side p.is_inside (is_member set j) (is_member set k) at.1 on.1),
      λ alike.
          let parts = All-pop (λ s. is_member s j ≡ is_member s k) (sets ++ set ∷ []) sets (Some set) refl alike in
          p.members k other
          ∙ and_from (is_member class k) (side (is_member set k)) (beside.1 parts.0)
          (subst (λ (x : Bool). side x ≡ true) parts.1 at.1),
    )

pub parts_are_classes : (sets : List TargetSet) (set : TargetSet) (classes parts : List TargetSet)
    → AreClasses sets classes → AreParts set classes parts → AreClasses (sets ++ set ∷ []) parts
parts_are_classes sets set classes parts are made = record {
  covering = λ k known. made.counted k known ∙ are.covering k known;
  some = λ i part below. (made.sound i part below).4.some;
  each = λ i part below.
      let of = made.sound i part below in
      part_class sets set of.1 (get_or parts i part)
      (subst (λ (c : TargetSet). IsClass sets c) of.3 (are.each of.0 of.1 of.2)) of.4;
}

pub first_class : (all : TargetSet) (classes : List TargetSet) → ((k : ℕ) → k < COUNT → is_member all k ≡ true)
    → classes ≡ all ∷ [] → AreClasses [] classes
first_class all classes has is =
    subst (λ (cs : List TargetSet). AreClasses [] cs) (sym is)
    (record {
      covering = λ k known. ap (λ (b : Bool). 0 + cond {A = ℕ} b 1 0) (has k known);
      some =
          All-push (λ c. IsEmpty c → ⊥) [] all (All-nil (λ c. IsEmpty c → ⊥))
          (λ none. absurd (both_ways (is_member all 0) (none 0 (omega arith)) (has 0 (omega arith))));
      each =
          All-push (λ c. IsClass [] c) [] all (All-nil (λ c. IsClass [] c))
          (λ j k known other here. (λ there. All-nil (λ s. is_member s j ≡ is_member s k), λ alike. has k other));
    })

pub classes_more : (sets : List TargetSet) (i : ℕ) (set : TargetSet) (classes parts : List TargetSet) → i < length sets
    → AreClasses (take i sets) classes → AreParts (get_or sets i set) classes parts
    → AreClasses (take (i + 1) sets) parts
classes_more sets i set classes parts below are made =
    subst (λ (xs : List TargetSet). AreClasses xs parts) (sym (take_more sets i set below))
    (parts_are_classes (take i sets) (get_or sets i set) classes parts are made)
