-- Kleene's logic where more is known.
use Rattle.std.proofs.Common.{◌≡◌, ◌∙◌, refl, sym, ap, Bool, true, false, Option, Some, None}
use Rattle.std.specs.FinSet.{contains}
use Rattle.cargo_platform.specs.Trees.{Tree, Not, All, Any, Value, True, False, Trees, none, tree}
use Rattle.cargo_platform.specs.Facts.{Pair, pair_of, FactSet, truth}
use Rattle.partial_facts.specs.Kleene.{kleene_not, kleene_and, kleene_or, kleene}
use Rattle.partial_facts.specs.Inside.Groups.{both, members_known}
use Rattle.partial_facts.specs.KleeneLaws.{TellsMore}
use Rattle.partial_facts.proofs.Neutral.{members_true, known-tree, true-tree, settled_second, known_both}

module _ (s : FactSet) where
  mutual
    pub all_known : (e : Tree) → kleene (λ p. Some (contains s p)) e ≡ Some (truth s e)
    all_known (Not e) = ap kleene_not (all_known e)
    all_known (All es) = members_all_known true es
    all_known (Any es) = members_all_known false es
    all_known (Value c) = refl
    all_known True = refl
    all_known False = refl

    members_all_known : (n : Bool) (es : Trees)
        → members_known n (λ p. Some (contains s p)) es ≡ Some (members_true n s es)
    members_all_known true none = refl
    members_all_known false none = refl
    members_all_known n (tree e es) =
        known-tree n (λ p. Some (contains s p)) e es
        ∙ (λ i. both n (all_known e i) (members_all_known n es i))
        ∙ known_both n (truth s e) (members_true n s es)
        ∙ sym (ap Some (true-tree n s e es))

-- ---- more known: x is kept by y

abbrev pub Keeps : Option Bool → Option Bool → Type 0
Keeps x y = (b : Bool) → x ≡ Some b → y ≡ Some b

keeps_not : (x y : Option Bool) → Keeps x y → Keeps (kleene_not x) (kleene_not y)
keeps_not (Some a) y h b e = ap kleene_not (h a refl) ∙ e
keeps_not None y h b e = cc

keeps_both : (n : Bool) (x y u v : Option Bool) → Keeps x u → Keeps y v → Keeps (both n x y) (both n u v)
keeps_both true (Some false) y u v h k b e = ap (λ w. kleene_and w v) (h false refl) ∙ e
keeps_both true (Some true) y u v h k b e = ap (λ w. kleene_and w v) (h true refl) ∙ k b e
keeps_both true None (Some false) u v h k b e = ap (kleene_and u) (k false refl) ∙ settled_second true u ∙ e
keeps_both true None (Some true) u v h k b e = cc
keeps_both true None None u v h k b e = cc
keeps_both false (Some true) y u v h k b e = ap (λ w. kleene_or w v) (h true refl) ∙ e
keeps_both false (Some false) y u v h k b e = ap (λ w. kleene_or w v) (h false refl) ∙ k b e
keeps_both false None (Some true) u v h k b e = ap (kleene_or u) (k true refl) ∙ settled_second false u ∙ e
keeps_both false None (Some false) u v h k b e = cc
keeps_both false None None u v h k b e = cc

module _ (told more : Pair → Option Bool) (grows : TellsMore told more) where
  mutual
    pub kept : (e : Tree) → Keeps (kleene told e) (kleene more e)
    kept (Not e) = keeps_not (kleene told e) (kleene more e) (kept e)
    kept (All es) = members_kept true es
    kept (Any es) = members_kept false es
    kept (Value c) = grows (pair_of c)
    kept True = λ b h. h
    kept False = λ b h. h

    members_kept : (n : Bool) (es : Trees) → Keeps (members_known n told es) (members_known n more es)
    members_kept true none = λ b h. h
    members_kept false none = λ b h. h
    members_kept n (tree e es) =
        λ b h. known-tree n more e es
        ∙ keeps_both n (kleene told e) (members_known n told es) (kleene more e) (members_known n more es) (kept e)
        (members_kept n es) b
        (sym (known-tree n told e es) ∙ h)
