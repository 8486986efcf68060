-- The warnings on values grow by those on the next one, and a cut takes all of them back.
use Rattle.std.proofs.Common.{◌≡◌, refl, sym, ap, ◌∙◌, ◌⊎◌, inl, inr, ℕ, ◌+◌, ◌≤◌, ◌==◌, true, false, true≢false}
use Rattle.std.proofs.Common.{List, [], ◌∷◌, ◌++◌, length, take, map, flat_map, reverse, sum, append-nil, append_assoc}
use Rattle.std.proofs.Common.{String, Vec, Box, Global, string_bytes, vec_len, arith}
use Rattle.std.proofs.lemmas.Bool.{eqb-true}
use Rattle.std.proofs.lemmas.List.{length-map, map-append, take-map, take_all, take-append-le, reverse-append}
use Rattle.std.proofs.lemmas.List.{nil_from_length}
use Rattle.std.proofs.lemmas.List.Sums.{sum_by-append, sum_by-cons}
use Rattle.std.proofs.lemmas.Grind.{flat_map-append}
use Rattle.cargo_platform.specs.declared.cfg.CfgExpr.{CfgExpr}
use Rattle.cargo_platform.specs.declared.cfg.CfgExpr.TheVariants as expr
use Rattle.cargo_platform.specs.ExpressionSizes.{node_count, node_counts}
use Rattle.cargo_platform.specs.Inside.Printing.{is_group}
use Rattle.cargo_platform.specs.Trees.{CfgValue, tree_of, trees_of}
use Rattle.cargo_platform.specs.Errors.{texts}
use Rattle.cargo_platform.specs.Warnings.{IsLonger, values, members_values}
use Rattle.cargo_platform.proofs.TreeViews.{tree_of-Not, tree_of-All, tree_of-Any}

abbrev pub values_of : List CfgExpr → List CfgValue
values_of es = members_values (trees_of (map tree_of es))

-- 1 for a list that is not empty
abbrev pub count_if_any : List CfgExpr → ℕ
count_if_any [] = 0
count_if_any (e ∷ es) = 1

pub at_most_one : (es : List CfgExpr) → count_if_any es ≤ 1
at_most_one [] = omega arith
at_most_one (e ∷ es) = omega arith

pub one_if_any : (es : List CfgExpr) → (length es == 0) ≡ false → count_if_any es ≡ 1
one_if_any [] some = absurd (true≢false some)
one_if_any (e ∷ es) some = refl

pub nodes_of_first : (ms os : List CfgExpr) (e : CfgExpr) → ms ≡ e ∷ os
    → node_counts ms ≡ node_count e + node_counts os
nodes_of_first ms os e is = ap (λ z. node_counts z) is ∙ sum_by-cons (λ n. n) (node_count e) (map node_count os)

-- a negation and a list are groups
pub is_opened : (e : CfgExpr)
    → ((b : Box CfgExpr Global) × (e ≡ expr.Not b))
    ⊎ (((v : Vec CfgExpr Global) × (e ≡ expr.All v)) ⊎ ((v : Vec CfgExpr Global) × (e ≡ expr.Any v)))
    → is_group (tree_of e) ≡ true
is_opened e is = elim is [
  | inl p ↦ ap (λ z. is_group (tree_of z)) p.1 ∙ ap is_group (tree_of-Not p.0)
  | inr q ↦ elim q [
    | inl p ↦ ap (λ z. is_group (tree_of z)) p.1 ∙ ap is_group (tree_of-All p.0)
    | inr p ↦ ap (λ z. is_group (tree_of z)) p.1 ∙ ap is_group (tree_of-Any p.0)
  ]
]

-- the values of the first member, and then those of the others
pub first_values : (ms os : List CfgExpr) (e : CfgExpr) (vs rest : List CfgValue) → ms ≡ e ∷ os
    → values (tree_of e) ≡ vs → values_of ms ++ rest ≡ vs ++ (values_of os ++ rest)
first_values ms os e vs rest is first =
    ap (λ z. values_of z ++ rest) is
    ∙ append_assoc (values (tree_of e)) (values_of os) rest
    ∙ ap (λ z. z ++ (values_of os ++ rest)) first

module _ (over all : List CfgValue) (ms os es : List CfgExpr) (e : CfgExpr) (is : ms ≡ e ∷ os)
    (group : values (tree_of e) ≡ values_of es) where
  opened : (rest : List CfgValue) → over ++ (values_of ms ++ rest) ≡ all
      → over ++ (values_of es ++ (values_of os ++ rest)) ≡ all
  opened rest h = ap (λ z. over ++ z) (sym (first_values ms os e (values_of es) rest is group)) ∙ h

  -- a group that no others follow
  pub opened_last : (rest : List CfgValue) → (length os == 0) ≡ true → over ++ (values_of ms ++ rest) ≡ all
      → over ++ (values_of es ++ rest) ≡ all
  opened_last rest none h =
      ap (λ z. over ++ (values_of es ++ (values_of z ++ rest))) (sym (nil_from_length os (eqb-true (length os) 0 none)))
      ∙ opened rest h

  -- one that others follow, where none is open around it
  pub opened_first : (around : List CfgExpr) (rest : List CfgValue) → (length around == 0) ≡ true
      → over ++ (values_of ms ++ (values_of around ++ rest)) ≡ all
      → over ++ (values_of es ++ (values_of os ++ rest)) ≡ all
  opened_first around rest none h =
      opened rest (ap (λ z. over ++ (values_of ms ++ (values_of z ++ rest)))
      (sym (nil_from_length around (eqb-true (length around) 0 none))) ∙ h)

  -- and where the one around it is kept
  pub opened_within : {X : Type 0} (f : X → List CfgValue) (kept now : List X) (around : X)
      → now ≡ kept ++ around ∷ [] → over ++ (values_of ms ++ (f around ++ flat_map f (reverse kept))) ≡ all
      → over ++ (values_of es ++ (values_of os ++ flat_map f (reverse now))) ≡ all
  opened_within f kept now around grown h =
      opened (flat_map f (reverse now))
      (ap (λ z. over ++ (values_of ms ++ flat_map f (reverse z))) grown
      ∙ ap (λ z. over ++ (values_of ms ++ flat_map f z)) (reverse-append kept (around ∷ []))
      ∙ h)

pub nodes_kept : {X : Type 0} (f : X → ℕ) (kept now : List X) (last : X) → now ≡ kept ++ last ∷ []
    → sum (map f now) ≡ sum (map f kept) + f last
nodes_kept f kept now last grown =
    ap (λ z. sum (map f z)) grown
    ∙ ap (λ z. sum z) (map-append f kept (last ∷ []))
    ∙ sum_by-append (λ n. n) (map f kept) (f last ∷ [])
    ∙ ap (λ n. sum (map f kept) + n) (omega (arith, sum_by-cons (λ n. n) (f last) []))

-- the warnings on the values so far, and those on the next one
pub warned_on : (f : CfgValue → List (List ℕ)) (old now new : List (List ℕ)) (over : List CfgValue) (v : CfgValue)
    → now ≡ old ++ flat_map f over → new ≡ now ++ f v → new ≡ old ++ flat_map f (over ++ v ∷ [])
warned_on f old now new over v so_far next =
    next
    ∙ ap (λ ws. ws ++ f v) so_far
    ∙ append_assoc old (flat_map f over) (f v)
    ∙ ap (λ ws. old ++ (flat_map f over ++ ws)) (sym (append-nil (f v)))
    ∙ ap (λ ws. old ++ ws) (sym (flat_map-append f over (v ∷ [])))

pub pushed_warning : (now new : Vec (String Global) Global) (s : String Global) (ws : List (List ℕ))
    → new.items ≡ now.items ++ s ∷ [] → ws ≡ string_bytes s ∷ [] → texts new ≡ texts now ++ ws
pushed_warning now new s ws is warning =
    ap (map (λ z. string_bytes z)) is
    ∙ map-append (λ z. string_bytes z) now.items (s ∷ [])
    ∙ ap (λ z. texts now ++ z) (sym warning)

-- a list that goes on after what was appended is longer than the old one
pub longer_still : (old now new more : List (List ℕ)) → now ≡ old ++ more → IsLonger new now → IsLonger new old
longer_still old now new more h longer =
    (more ++ longer.0, longer.1 ∙ ap (λ ws. ws ++ longer.0) h ∙ append_assoc old more longer.0)

-- cut back to its old length, a longer list is the old one
pub cut_back : (old longer cut : Vec (String Global) Global) → IsLonger (texts longer) (texts old)
    → cut.items ≡ take (vec_len old) longer.items → texts cut ≡ texts old
cut_back old longer cut more is =
    let n : ℕ = vec_len old in
    let same : n ≡ length old.items = old.ok.0 in
    let len : length (texts old) ≡ length old.items = length-map old.items (λ s. string_bytes s) in
    ap (map (λ s. string_bytes s)) is
    ∙ sym (take-map (λ s. string_bytes s) n longer.items)
    ∙ ap (take n) more.1
    ∙ take-append-le n (texts old) more.0 (omega arith)
    ∙ take_all n (texts old) (omega arith)
