-- Claims and their numbers.
use Rattle.std.proofs.Common.{◌≡◌, ◌<◌, ◌≤◌, ◌⊎◌, ℕ, zero, suc, ◌+◌, ◌*◌, Bool, true, false, cond, List, [], ◌∷◌}
use Rattle.std.proofs.Common.{length, take}
use Rattle.std.proofs.Common.{get_or, map, refl, sym, ◌∙◌, ap, subst, inl, inr, arith}
use Rattle.std.specs.Prelude.{sum_by}
use borrow.Author.Tests.{ltb-true}
use Rattle.std.proofs.lemmas.Bool.{cases_lt}
use Rattle.std.proofs.lemmas.List.{get_or-map, get_or_past, length-map}
use Rattle.std.proofs.lemmas.List.Sums.{sum_by_more_le, sum_by-cons}
use Rattle.package_graphs.specs.Packages.{node_of}
use Rattle.package_graphs.specs.declared.sides.Side.{Side}
use Rattle.package_graphs.specs.declared.sides.Side.TheVariants.{Target, Host}
use Rattle.package_graphs.proofs.Sided.{same_node, fits_node}
use Rattle.cargo_features.specs.Holding.{feature_count, dependency_count, is_known}
use Rattle.cargo_features.specs.Inside.Numbered.{width, first_of, count_of, place_of, number, AreNumbers}
use Rattle.cargo_features.specs.declared.claims.Claim.{Claim}
use Rattle.cargo_features.specs.declared.claims.Claim.TheVariants as claim
use Rattle.cargo_features.specs.declared.numbers.Numbers.{Numbers}
use Rattle.cargo_features.specs.declared.packages.Package.{Package}

cases_bool : (b : Bool) → (b ≡ true) ⊎ (b ≡ false)
cases_bool true = inl refl
cases_bool false = inr refl

-- ---- counts

pub features_read : (packages : List Package) (p : ℕ) (x : Package) → p < length packages
    → feature_count packages p ≡ length (get_or packages p x).features.items
features_read packages p x inside = get_or-map (λ p. length p.features.items) packages p x 0 inside

pub dependencies_read : (packages : List Package) (p : ℕ) (x : Package) → p < length packages
    → dependency_count packages p ≡ length (get_or packages p x).dependencies.items
dependencies_read packages p x inside = get_or-map (λ p. length p.dependencies.items) packages p x 0 inside

-- a package that has a feature, or a dependency, is there
pub has_feature : (packages : List Package) (p f : ℕ) → f < feature_count packages p → p < length packages
has_feature packages p f below =
    elim (cases_lt p (length packages)) as (λ _. p < length packages) [
      | inl inside ↦ inside
      | inr past ↦
          let none : feature_count packages p ≡ 0 =
          get_or_past (map (λ p. length p.features.items) packages) p 0
          (omega (arith, past, length-map packages (λ p. length p.features.items))) in
          absurd (omega (arith, none, below))
    ]

pub has_dependency : (packages : List Package) (p d : ℕ) → d < dependency_count packages p → p < length packages
has_dependency packages p d below =
    elim (cases_lt p (length packages)) as (λ _. p < length packages) [
      | inl inside ↦ inside
      | inr past ↦
          let none : dependency_count packages p ≡ 0 =
          get_or_past (map (λ p. length p.dependencies.items) packages) p 0
          (omega (arith, past, length-map packages (λ p. length p.dependencies.items))) in
          absurd (omega (arith, none, below))
    ]

-- ---- one package after the other

apart : (packages : List Package) (p q : ℕ) (x : Package) → p < q → q < length packages
    → sum_by width (take p packages) + width (get_or packages p x) ≤ sum_by width (take q packages)
apart [] p q x under inside = absurd (omega (arith, inside))
apart (u ∷ us) p zero x under inside = absurd (omega (arith, under))
apart (u ∷ us) zero (suc q) x under inside =
    let e : sum_by width (take (suc q) (u ∷ us)) ≡ width u + sum_by width (take q us) =
    sum_by-cons width u (take q us) in
    let here : sum_by width (take zero (u ∷ us)) + width (get_or (u ∷ us) zero x) ≤ width u + sum_by width (take q us) =
    omega arith in
    subst (λ (n : ℕ). sum_by width (take zero (u ∷ us)) + width (get_or (u ∷ us) zero x) ≤ n) (sym e) here
apart (u ∷ us) (suc p) (suc q) x under inside =
    let e : sum_by width (take (suc p) (u ∷ us)) ≡ width u + sum_by width (take p us) =
    sum_by-cons width u (take p us) in
    let f : sum_by width (take (suc q) (u ∷ us)) ≡ width u + sum_by width (take q us) =
    sum_by-cons width u (take q us) in
    let after = apart us p q x (omega (arith, under)) (omega (arith, inside)) in
    let here : (width u + sum_by width (take p us)) + width (get_or us p x) ≤ width u + sum_by width (take q us) =
    omega (arith, after) in
    subst (λ (n : ℕ). sum_by width (take (suc p) (u ∷ us)) + width (get_or us p x) ≤ n) (sym f)
    (subst (λ (n : ℕ). n + width (get_or us p x) ≤ width u + sum_by width (take q us)) (sym e) here)

-- how many facts there are of a package
abbrev facts_of : List Package → ℕ → ℕ
facts_of packages p = 2 + (feature_count packages p + dependency_count packages p)

wide : (packages : List Package) (p : ℕ) (x : Package) → p < length packages
    → width (get_or packages p x) ≡ 2 * facts_of packages p
wide packages p x inside =
    let fs = features_read packages p x inside in
    let ds = dependencies_read packages p x inside in
    omega (arith, fs, ds)

-- a package to name where one is wanted
some_package : (packages : List Package) (p : ℕ) → p < length packages → Package
some_package [] p inside = absurd (omega (arith, inside))
some_package (u ∷ us) p inside = u

pub within : (packages : List Package) (p i : ℕ) (from : Side) → p < length packages → i < facts_of packages p
    → first_of packages p + node_of i from < count_of packages
within packages p i from inside below =
    let x = some_package packages p inside in
    let all = sum_by_more_le width packages p x inside in
    let w = wide packages p x inside in
    let fits = fits_node i (facts_of packages p) from below in
    omega (arith, all, w, fits)

ordered : (packages : List Package) (p q i j : ℕ) (from to : Side) → p < q → q < length packages
    → i < facts_of packages p
    → first_of packages p + node_of i from < first_of packages q + node_of j to
ordered packages p q i j from to under inside below =
    let x = some_package packages q inside in
    let gap = apart packages p q x under inside in
    let w = wide packages p x (omega (arith, under, inside)) in
    let fits = fits_node i (facts_of packages p) from below in
    omega (arith, gap, w, fits)

same_fact : (packages : List Package) (p q i j : ℕ) (from to : Side) → p < length packages → q < length packages
    → i < facts_of packages p → j < facts_of packages q
    → first_of packages p + node_of i from ≡ first_of packages q + node_of j to
    → (p ≡ q) × (i ≡ j) × (from ≡ to)
same_fact packages p q i j from to p_in q_in i_in j_in e =
    elim (cases_lt p q) as (λ _. (p ≡ q) × (i ≡ j) × (from ≡ to)) [
      | inl under ↦
          let o = ordered packages p q i j from to under q_in i_in in
          absurd (omega (arith, o, e))
      | inr not_under ↦
          elim (cases_lt q p) as (λ _. (p ≡ q) × (i ≡ j) × (from ≡ to)) [
            | inl over ↦
                let o = ordered packages q p j i to from over p_in j_in in
                absurd (omega (arith, o, e))
            | inr not_over ↦
                let here : p ≡ q = omega (arith, not_under, not_over) in
                let first = ap (λ (x : ℕ). first_of packages x) here in
                let node : node_of i from ≡ node_of j to = omega (arith, first, e) in
                let both = same_node i j from to node in
                (here, both.0, both.1)
          ]
    ]

-- ---- claims

-- a claim on a package: which package, side and fact
data Fact (packages : List Package) (c : Claim) : Type 0 where
  requested : c ≡ claim.Requested → Fact packages c
  on : (p i : ℕ) (from : Side) → p < length packages → i < facts_of packages p
      → place_of packages c ≡ first_of packages p + node_of i from → Fact packages c

fact_of : (packages : List Package) (c : Claim) → is_known packages c ≡ true → Fact packages c
fact_of packages claim.Requested known = requested refl
fact_of packages (claim.Active p from) known = on p 0 from (ltb-true p (length packages) known) (omega arith) refl
fact_of packages (claim.Used p from) known = on p 1 from (ltb-true p (length packages) known) (omega arith) refl
fact_of packages (claim.Feature p from f) known =
    let below : f < feature_count packages p = ltb-true f (feature_count packages p) known in
    on p (f + 2) from (has_feature packages p f below) (omega (arith, below)) refl
fact_of packages (claim.Dependency p from d) known =
    let below : d < dependency_count packages p = ltb-true d (dependency_count packages p) known in
    on p ((feature_count packages p + d) + 2) from (has_dependency packages p d below) (omega (arith, below)) refl

pub place_fits : (packages : List Package) (c : Claim) → is_known packages c ≡ true
    → place_of packages c < count_of packages
place_fits packages c known =
    elim (fact_of packages c known) as (λ _. place_of packages c < count_of packages) [
      | requested is ↦ subst (λ (x : Claim). place_of packages x < count_of packages) (sym is) (omega arith)
      | on p i from p_in i_in is ↦
          let fits = within packages p i from p_in i_in in
          omega (arith, is, fits)
    ]

-- claims with one number are one
pub injective : (packages : List Package) (a b : Claim) → is_known packages a ≡ true → is_known packages b ≡ true
    → place_of packages a ≡ place_of packages b → a ≡ b
injective packages claim.Requested claim.Requested h k e = refl
injective packages claim.Requested (claim.Active q to) h k e = absurd (omega (arith, e))
injective packages claim.Requested (claim.Used q to) h k e = absurd (omega (arith, e))
injective packages claim.Requested (claim.Feature q to j) h k e = absurd (omega (arith, e))
injective packages claim.Requested (claim.Dependency q to j) h k e = absurd (omega (arith, e))
injective packages (claim.Active p from) claim.Requested h k e = absurd (omega (arith, e))
injective packages (claim.Used p from) claim.Requested h k e = absurd (omega (arith, e))
injective packages (claim.Feature p from i) claim.Requested h k e = absurd (omega (arith, e))
injective packages (claim.Dependency p from i) claim.Requested h k e = absurd (omega (arith, e))
injective packages (claim.Active p from) (claim.Active q to) h k e =
    let a_in : p < length packages = ltb-true p (length packages) h in
    let a_fact : 0 < facts_of packages p = omega arith in
    let b_in : q < length packages = ltb-true q (length packages) k in
    let b_fact : 0 < facts_of packages q = omega arith in
    let s = same_fact packages p q 0 0 from to a_in b_in a_fact b_fact e in
    let p_is : p ≡ q = s.0 in
    let side_is : from ≡ to = s.2 in
    cc
injective packages (claim.Active p from) (claim.Used q to) h k e =
    let a_in : p < length packages = ltb-true p (length packages) h in
    let a_fact : 0 < facts_of packages p = omega arith in
    let b_in : q < length packages = ltb-true q (length packages) k in
    let b_fact : 1 < facts_of packages q = omega arith in
    let s = same_fact packages p q 0 1 from to a_in b_in a_fact b_fact e in
    absurd (omega (arith, s.1))
injective packages (claim.Active p from) (claim.Feature q to j) h k e =
    let a_in : p < length packages = ltb-true p (length packages) h in
    let a_fact : 0 < facts_of packages p = omega arith in
    let b_low : j < feature_count packages q = ltb-true j (feature_count packages q) k in
    let b_in : q < length packages = has_feature packages q j b_low in
    let b_fact : (j + 2) < facts_of packages q = omega (arith, b_low) in
    let s = same_fact packages p q 0 (j + 2) from to a_in b_in a_fact b_fact e in
    absurd (omega (arith, s.1))
injective packages (claim.Active p from) (claim.Dependency q to j) h k e =
    let a_in : p < length packages = ltb-true p (length packages) h in
    let a_fact : 0 < facts_of packages p = omega arith in
    let b_low : j < dependency_count packages q = ltb-true j (dependency_count packages q) k in
    let b_in : q < length packages = has_dependency packages q j b_low in
    let b_fact : ((feature_count packages q + j) + 2) < facts_of packages q = omega (arith, b_low) in
    let s = same_fact packages p q 0 ((feature_count packages q + j) + 2) from to a_in b_in a_fact b_fact e in
    absurd (omega (arith, s.1))
injective packages (claim.Used p from) (claim.Active q to) h k e =
    let a_in : p < length packages = ltb-true p (length packages) h in
    let a_fact : 1 < facts_of packages p = omega arith in
    let b_in : q < length packages = ltb-true q (length packages) k in
    let b_fact : 0 < facts_of packages q = omega arith in
    let s = same_fact packages p q 1 0 from to a_in b_in a_fact b_fact e in
    absurd (omega (arith, s.1))
injective packages (claim.Used p from) (claim.Used q to) h k e =
    let a_in : p < length packages = ltb-true p (length packages) h in
    let a_fact : 1 < facts_of packages p = omega arith in
    let b_in : q < length packages = ltb-true q (length packages) k in
    let b_fact : 1 < facts_of packages q = omega arith in
    let s = same_fact packages p q 1 1 from to a_in b_in a_fact b_fact e in
    let p_is : p ≡ q = s.0 in
    let side_is : from ≡ to = s.2 in
    cc
injective packages (claim.Used p from) (claim.Feature q to j) h k e =
    let a_in : p < length packages = ltb-true p (length packages) h in
    let a_fact : 1 < facts_of packages p = omega arith in
    let b_low : j < feature_count packages q = ltb-true j (feature_count packages q) k in
    let b_in : q < length packages = has_feature packages q j b_low in
    let b_fact : (j + 2) < facts_of packages q = omega (arith, b_low) in
    let s = same_fact packages p q 1 (j + 2) from to a_in b_in a_fact b_fact e in
    absurd (omega (arith, s.1))
injective packages (claim.Used p from) (claim.Dependency q to j) h k e =
    let a_in : p < length packages = ltb-true p (length packages) h in
    let a_fact : 1 < facts_of packages p = omega arith in
    let b_low : j < dependency_count packages q = ltb-true j (dependency_count packages q) k in
    let b_in : q < length packages = has_dependency packages q j b_low in
    let b_fact : ((feature_count packages q + j) + 2) < facts_of packages q = omega (arith, b_low) in
    let s = same_fact packages p q 1 ((feature_count packages q + j) + 2) from to a_in b_in a_fact b_fact e in
    absurd (omega (arith, s.1))
injective packages (claim.Feature p from i) (claim.Active q to) h k e =
    let a_low : i < feature_count packages p = ltb-true i (feature_count packages p) h in
    let a_in : p < length packages = has_feature packages p i a_low in
    let a_fact : (i + 2) < facts_of packages p = omega (arith, a_low) in
    let b_in : q < length packages = ltb-true q (length packages) k in
    let b_fact : 0 < facts_of packages q = omega arith in
    let s = same_fact packages p q (i + 2) 0 from to a_in b_in a_fact b_fact e in
    absurd (omega (arith, s.1))
injective packages (claim.Feature p from i) (claim.Used q to) h k e =
    let a_low : i < feature_count packages p = ltb-true i (feature_count packages p) h in
    let a_in : p < length packages = has_feature packages p i a_low in
    let a_fact : (i + 2) < facts_of packages p = omega (arith, a_low) in
    let b_in : q < length packages = ltb-true q (length packages) k in
    let b_fact : 1 < facts_of packages q = omega arith in
    let s = same_fact packages p q (i + 2) 1 from to a_in b_in a_fact b_fact e in
    absurd (omega (arith, s.1))
injective packages (claim.Feature p from i) (claim.Feature q to j) h k e =
    let a_low : i < feature_count packages p = ltb-true i (feature_count packages p) h in
    let a_in : p < length packages = has_feature packages p i a_low in
    let a_fact : (i + 2) < facts_of packages p = omega (arith, a_low) in
    let b_low : j < feature_count packages q = ltb-true j (feature_count packages q) k in
    let b_in : q < length packages = has_feature packages q j b_low in
    let b_fact : (j + 2) < facts_of packages q = omega (arith, b_low) in
    let s = same_fact packages p q (i + 2) (j + 2) from to a_in b_in a_fact b_fact e in
    let p_is : p ≡ q = s.0 in
    let side_is : from ≡ to = s.2 in
    let i_is : i ≡ j = omega (arith, s.1) in
    cc
injective packages (claim.Feature p from i) (claim.Dependency q to j) h k e =
    let a_low : i < feature_count packages p = ltb-true i (feature_count packages p) h in
    let a_in : p < length packages = has_feature packages p i a_low in
    let a_fact : (i + 2) < facts_of packages p = omega (arith, a_low) in
    let b_low : j < dependency_count packages q = ltb-true j (dependency_count packages q) k in
    let b_in : q < length packages = has_dependency packages q j b_low in
    let b_fact : ((feature_count packages q + j) + 2) < facts_of packages q = omega (arith, b_low) in
    let s = same_fact packages p q (i + 2) ((feature_count packages q + j) + 2) from to a_in b_in a_fact b_fact e in
    let same = ap (λ (x : ℕ). feature_count packages x) s.0 in
    absurd (omega (arith, s.1, same, a_low))
injective packages (claim.Dependency p from i) (claim.Active q to) h k e =
    let a_low : i < dependency_count packages p = ltb-true i (dependency_count packages p) h in
    let a_in : p < length packages = has_dependency packages p i a_low in
    let a_fact : ((feature_count packages p + i) + 2) < facts_of packages p = omega (arith, a_low) in
    let b_in : q < length packages = ltb-true q (length packages) k in
    let b_fact : 0 < facts_of packages q = omega arith in
    let s = same_fact packages p q ((feature_count packages p + i) + 2) 0 from to a_in b_in a_fact b_fact e in
    absurd (omega (arith, s.1))
injective packages (claim.Dependency p from i) (claim.Used q to) h k e =
    let a_low : i < dependency_count packages p = ltb-true i (dependency_count packages p) h in
    let a_in : p < length packages = has_dependency packages p i a_low in
    let a_fact : ((feature_count packages p + i) + 2) < facts_of packages p = omega (arith, a_low) in
    let b_in : q < length packages = ltb-true q (length packages) k in
    let b_fact : 1 < facts_of packages q = omega arith in
    let s = same_fact packages p q ((feature_count packages p + i) + 2) 1 from to a_in b_in a_fact b_fact e in
    absurd (omega (arith, s.1))
injective packages (claim.Dependency p from i) (claim.Feature q to j) h k e =
    let a_low : i < dependency_count packages p = ltb-true i (dependency_count packages p) h in
    let a_in : p < length packages = has_dependency packages p i a_low in
    let a_fact : ((feature_count packages p + i) + 2) < facts_of packages p = omega (arith, a_low) in
    let b_low : j < feature_count packages q = ltb-true j (feature_count packages q) k in
    let b_in : q < length packages = has_feature packages q j b_low in
    let b_fact : (j + 2) < facts_of packages q = omega (arith, b_low) in
    let s = same_fact packages p q ((feature_count packages p + i) + 2) (j + 2) from to a_in b_in a_fact b_fact e in
    let same = ap (λ (x : ℕ). feature_count packages x) s.0 in
    absurd (omega (arith, s.1, same, b_low))
injective packages (claim.Dependency p from i) (claim.Dependency q to j) h k e =
    let a_low : i < dependency_count packages p = ltb-true i (dependency_count packages p) h in
    let a_in : p < length packages = has_dependency packages p i a_low in
    let a_fact : ((feature_count packages p + i) + 2) < facts_of packages p = omega (arith, a_low) in
    let b_low : j < dependency_count packages q = ltb-true j (dependency_count packages q) k in
    let b_in : q < length packages = has_dependency packages q j b_low in
    let b_fact : ((feature_count packages q + j) + 2) < facts_of packages q = omega (arith, b_low) in
    let s = same_fact packages p q ((feature_count packages p + i) + 2) ((feature_count packages q + j) + 2)
    from to a_in b_in a_fact b_fact e in
    let p_is : p ≡ q = s.0 in
    let side_is : from ≡ to = s.2 in
    let same = ap (λ (x : ℕ). feature_count packages x) p_is in
    let i_is : i ≡ j = omega (arith, s.1, same) in
    cc

-- ---- numbers

pub number_known : (packages : List Package) (c : Claim) → is_known packages c ≡ true
    → number packages c ≡ place_of packages c
number_known packages c known =
    ap (λ (b : Bool). cond b (place_of packages c) (count_of packages)) known

pub number_unknown : (packages : List Package) (c : Claim) → is_known packages c ≡ false
    → number packages c ≡ count_of packages
number_unknown packages c unknown =
    ap (λ (b : Bool). cond b (place_of packages c) (count_of packages)) unknown

pub number_fits : (packages : List Package) (c : Claim) → is_known packages c ≡ true
    → number packages c < count_of packages
number_fits packages c known =
    let is = number_known packages c known in
    let fits = place_fits packages c known in
    omega (arith, is, fits)

-- what has a number below the count is known
pub known_below : (packages : List Package) (c : Claim) → number packages c < count_of packages
    → is_known packages c ≡ true
known_below packages c below =
    elim (cases_bool (is_known packages c)) as (λ _. is_known packages c ≡ true) [
      | inl known ↦ known
      | inr unknown ↦
          let is = number_unknown packages c unknown in
          absurd (omega (arith, is, below))
    ]

pub same_claim : (packages : List Package) (a b : Claim) → is_known packages a ≡ true
    → number packages a ≡ number packages b → a ≡ b
same_claim packages a b known e =
    let fits = number_fits packages a known in
    let there : is_known packages b ≡ true = known_below packages b (omega (arith, fits, e)) in
    injective packages a b known there
    (sym (number_known packages a known) ∙ e ∙ number_known packages b there)

pub number_of_unknown : (packages : List Package) (c : Claim) → (is_known packages c ≡ true → ⊥)
    → number packages c ≡ count_of packages
number_of_unknown packages c other =
    elim (cases_bool (is_known packages c)) as (λ _. number packages c ≡ count_of packages) [
      | inl known ↦ absurd (other known)
      | inr unknown ↦ number_unknown packages c unknown
    ]

-- a number that was told of a known claim
pub told : (packages : List Package) (numbers : Numbers) (c : Claim) (p i : ℕ) (from : Side) (result : ℕ)
    → AreNumbers packages numbers → is_known packages c ≡ true → p < length packages
    → place_of packages c ≡ first_of packages p + node_of i from
    → (p < length numbers.firsts.items → get_or numbers.firsts.items p 0 + node_of i from < numbers.count
    → result ≡ get_or numbers.firsts.items p 0 + node_of i from)
    → result ≡ number packages c
told packages numbers c p i from result are known inside is there =
    let first = are.firsts p inside in
    let fits = place_fits packages c known in
    let same = number_known packages c known in
    let told_as = there (omega (arith, inside, are.many)) (omega (arith, first, fits, is, are.count)) in
    omega (arith, told_as, first, is, same)

-- and of one on no package
pub told_none : (packages : List Package) (numbers : Numbers) (c : Claim) (p result : ℕ)
    → AreNumbers packages numbers → (is_known packages c ≡ true → p < length packages) → length packages ≤ p
    → (length numbers.firsts.items ≤ p → result ≡ numbers.count)
    → result ≡ number packages c
told_none packages numbers c p result are inside past nowhere =
    let none = number_of_unknown packages c (λ known. let i = inside known in absurd (omega (arith, i, past))) in
    let told_as = nowhere (omega (arith, past, are.many)) in
    omega (arith, told_as, none, are.count)
