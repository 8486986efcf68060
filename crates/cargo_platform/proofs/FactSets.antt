-- Membership in the fact set of a list.
use Rattle.std.proofs.Common.{◌≡◌, refl, sym, ap, ◌∙◌, false, ◌||◌, List, [], ◌∷◌, map}
use Rattle.std.specs.declared.cmp.Ordering.{Ordering}
use Rattle.std.specs.declared.cmp.Ordering.TheVariants.{Less, Equal, Greater}
use Rattle.std.specs.Ordering.{ordering_then, is_eq, eq_by_cmp}
use Rattle.std.specs.List.{list_any}
use Rattle.std.specs.FinSet.{contains, contains-from_list}
use Rattle.std.specs.Cmp.{IsTotalOrder, eq_by_cmp_equiv, then_total, on_total}
use Rattle.std.specs.Cmp.Lexicographic.{nat_list_cmp_total, options_total}
use Rattle.cargo_platform.specs.declared.cfg.Cfg.{Cfg}
use Rattle.cargo_platform.specs.Trees.{CfgValue, Alone, KeyPair, value_of}
use Rattle.cargo_platform.specs.Key.{value_cmp, name_cmp}
use Rattle.cargo_platform.specs.Facts.{Pair, pair_of, pair_cmp, fact_set}
use Rattle.cargo_platform.specs.OrderLaws.{value_total}

pub pairs_total : IsTotalOrder pair_cmp
pairs_total =
    then_total (on_total (λ (p : Pair). p.name) nat_list_cmp_total)
    (on_total (λ (p : Pair). p.value) (options_total nat_list_cmp_total))

pub untied_after : (a b : Ordering) → is_eq b ≡ false → is_eq (ordering_then a b) ≡ false
untied_after Less b h = refl
untied_after Equal b h = h
untied_after Greater b h = refl

tied_after : (a : Ordering) → is_eq a ≡ is_eq (ordering_then a Equal)
tied_after Less = refl
tied_after Equal = refl
tied_after Greater = refl

-- values are equal where their pairs are
pub same_pair : (c d : CfgValue) → eq_by_cmp value_cmp c d ≡ eq_by_cmp pair_cmp (pair_of c) (pair_of d)
same_pair (Alone m) (Alone n) = tied_after (name_cmp m n)
same_pair (Alone m) (KeyPair k v) = sym (untied_after (name_cmp m k) Less refl)
same_pair (KeyPair j u) (Alone n) = sym (untied_after (name_cmp j n) Greater refl)
same_pair (KeyPair j u) (KeyPair k v) = refl

searched : (c : CfgValue) (facts : List CfgValue)
    → list_any (eq_by_cmp value_cmp c) facts ≡ list_any (eq_by_cmp pair_cmp (pair_of c)) (map pair_of facts)
searched c [] = refl
searched c (f ∷ facts) = λ i. same_pair c f i || searched c facts i

turned : (c : CfgValue) (facts : List CfgValue)
    → list_any (λ f. eq_by_cmp value_cmp f c) facts ≡ list_any (eq_by_cmp value_cmp c) facts
turned c facts = ap (λ test. list_any test facts) (λ i f. (eq_by_cmp_equiv value_total).symm f c i)

-- whether some fact equals the value is whether the pair is in the fact set
pub is_listed : (c : CfgValue) (facts : List CfgValue)
    → list_any (λ f. eq_by_cmp value_cmp f c) facts ≡ contains (fact_set facts) (pair_of c)
is_listed c facts =
    turned c facts ∙ searched c facts ∙ sym (contains-from_list pairs_total (map pair_of facts) (pair_of c))

-- the same of facts as they are in memory
same_test : (c : CfgValue) (facts : List Cfg)
    → list_any (λ f. eq_by_cmp value_cmp (value_of f) c) facts
    ≡ list_any (λ f. eq_by_cmp value_cmp f c) (map value_of facts)
same_test c [] = refl
same_test c (f ∷ facts) = ap (λ b. eq_by_cmp value_cmp (value_of f) c || b) (same_test c facts)

pub is_in_list : (c : CfgValue) (facts : List Cfg)
    → list_any (λ f. eq_by_cmp value_cmp (value_of f) c) facts ≡ contains (fact_set (map value_of facts)) (pair_of c)
is_in_list c facts = same_test c facts ∙ is_listed c (map value_of facts)
