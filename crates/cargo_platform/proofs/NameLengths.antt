-- Names of unequal lengths are unequal.
use Rattle.std.proofs.Common.{◌≡◌, refl, sym, ap, ◌∙◌, false, length}
use Rattle.std.specs.declared.cmp.Ordering.{Ordering}
use Rattle.std.specs.declared.cmp.Ordering.TheVariants.{Less, Equal, Greater}
use Rattle.std.specs.Ordering.{is_eq, eq_by_cmp}
use Rattle.cargo_platform.specs.Trees.{CfgValue, Alone, KeyPair}
use Rattle.cargo_platform.specs.Key.{value_key, value_cmp}
use Rattle.cargo_platform.specs.Facts.{pair_of}
use Rattle.cargo_platform.specs.OrderLaws.{value_tie}

name_of_key : (c : CfgValue) → (pair_of (value_key c)).name ≡ (pair_of c).name
name_of_key (Alone n) = refl
name_of_key (KeyPair k v) = refl

same_name : (c d : CfgValue) → value_cmp c d ≡ Equal → (pair_of c).name ≡ (pair_of d).name
same_name c d tie = sym (name_of_key c) ∙ ap (λ v. (pair_of v).name) (value_tie c d tie) ∙ name_of_key d

-- values whose names or keys have unequal lengths are unequal
pub unequal_names : (c d : CfgValue) → (length (pair_of c).name ≡ length (pair_of d).name → ⊥)
    → eq_by_cmp value_cmp c d ≡ false
unequal_names c d unequal = by_cases (value_cmp c d) refl
  where
    by_cases : (r : Ordering) → value_cmp c d ≡ r → is_eq r ≡ false
    by_cases Less e = refl
    by_cases Greater e = refl
    by_cases Equal e = absurd (unequal (ap (λ n. length n) (same_name c d e)))
