-- What depends on the last member of a group depends on it alone.
use Rattle.std.proofs.Common.{◌≡◌, refl, sym, ap, ◌∙◌, Bool, true, false, not, ◌&&◌, ◌||◌}
use Rattle.std.proofs.Common.{ℕ, List, [], ◌∷◌, ◌++◌, length, map, fold, arith}
use Rattle.std.proofs.lemmas.List.{append-nil}
use Rattle.std.specs.declared.cmp.Ordering.{Ordering}
use Rattle.std.specs.declared.cmp.Ordering.TheVariants.{Less, Equal, Greater}
use Rattle.std.specs.Ordering.{ordering_then, is_eq}
use Rattle.cargo_platform.specs.declared.cfg.CfgExpr.{CfgExpr}
use Rattle.cargo_platform.specs.Trees.{Tree, tree_of, trees_of}
use Rattle.cargo_platform.specs.Key.{tree_cmp, trees_cmp}
use Rattle.cargo_platform.specs.OrderLaws.{then_Equal, then_assoc}
use Rattle.cargo_platform.specs.Hashing.{tree_hash, trees_hash}
use Rattle.cargo_platform.specs.Inside.Asking.{asked}

pub asked_not : (b t : Bool) → asked (not b) t ≡ asked b (not t)
asked_not true t = refl
asked_not false true = refl
asked_not false false = refl

pub and_true : (b : Bool) → (b && true) ≡ b
and_true true = refl
and_true false = refl

pub or_false : (b : Bool) → (b || false) ≡ b
or_false true = refl
or_false false = refl

pub last_fed : {S : Type 0} (write : S → List ℕ → S) (state fed : S) (e : Tree) (left : List CfgExpr) → length left ≡ 0
    → fold write state (tree_hash e ++ trees_hash (trees_of (map tree_of left))) ≡ fed
    → fold write state (tree_hash e) ≡ fed
last_fed write state fed e [] p q = rw append-nil at q
last_fed write state fed e (d ∷ ds) p q = absurd (omega arith)

abbrev members_cmp : List CfgExpr → List CfgExpr → Ordering
members_cmp ds es = trees_cmp (trees_of (map tree_of ds)) (trees_of (map tree_of es))

-- of lists of one length, the members before the last are compared first
last_compared : (fs gs : List CfgExpr) (d e : CfgExpr) → length fs ≡ length gs
    → members_cmp (fs ++ d ∷ []) (gs ++ e ∷ []) ≡ ordering_then (members_cmp fs gs) (tree_cmp (tree_of d) (tree_of e))
last_compared [] [] d e p = then_Equal (tree_cmp (tree_of d) (tree_of e))
last_compared [] (g ∷ gs) d e p = absurd (omega arith)
last_compared (f ∷ fs) [] d e p = absurd (omega arith)
last_compared (f ∷ fs) (g ∷ gs) d e p =
    let first = tree_cmp (tree_of f) (tree_of g) in
    ap (λ o. ordering_then first o) (last_compared fs gs d e (omega arith))
    ∙ then_assoc first (members_cmp fs gs) (tree_cmp (tree_of d) (tree_of e))

by_last : (ds es fs gs : List CfgExpr) (d e : CfgExpr) → ds ≡ fs ++ d ∷ [] → es ≡ gs ++ e ∷ []
    → length fs ≡ length gs → members_cmp ds es ≡ ordering_then (members_cmp fs gs) (tree_cmp (tree_of d) (tree_of e))
by_last ds es fs gs d e p q r = rw (p, q) (last_compared fs gs d e r)

tied_before : (o p : Ordering) → is_eq o ≡ true → p ≡ ordering_then o p
tied_before Less p h = cc
tied_before Equal p h = refl
tied_before Greater p h = cc

decided_before : (o p : Ordering) → is_eq o ≡ false → o ≡ ordering_then o p
decided_before Less p h = refl
decided_before Equal p h = cc
decided_before Greater p h = refl

-- where those before the last are equal, the order depends on the last, and otherwise on those
pub last_decides : (ds es fs gs : List CfgExpr) (d e : CfgExpr) → ds ≡ fs ++ d ∷ [] → es ≡ gs ++ e ∷ []
    → length fs ≡ length gs → is_eq (members_cmp fs gs) ≡ true → tree_cmp (tree_of d) (tree_of e) ≡ members_cmp ds es
last_decides ds es fs gs d e p q r h =
    tied_before (members_cmp fs gs) (tree_cmp (tree_of d) (tree_of e)) h ∙ sym (by_last ds es fs gs d e p q r)

pub front_decides : (ds es fs gs : List CfgExpr) (d e : CfgExpr) → ds ≡ fs ++ d ∷ [] → es ≡ gs ++ e ∷ []
    → length fs ≡ length gs → is_eq (members_cmp fs gs) ≡ false → members_cmp fs gs ≡ members_cmp ds es
front_decides ds es fs gs d e p q r h =
    decided_before (members_cmp fs gs) (tree_cmp (tree_of d) (tree_of e)) h ∙ sym (by_last ds es fs gs d e p q r)
