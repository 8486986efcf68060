-- What is left in two steps, as more becomes known, is what is left at once.
use Rattle.std.proofs.Common.{◌≡◌, ◌∙◌, refl, sym, ap, Bool, true, false, Option, Some, None}
use Rattle.cargo_platform.specs.Trees.{Tree, Not, All, Any, Value, True, False, Trees, none, tree}
use Rattle.cargo_platform.specs.Facts.{Pair}
use Rattle.partial_facts.specs.Kleene.{kleene_not, kleene_and, kleene_or, kleene}
use Rattle.partial_facts.specs.KleeneLaws.{TellsMore}
use Rattle.partial_facts.specs.Inside.Groups.{both, members_known, grouped}
use Rattle.partial_facts.specs.Residual.{literal, unless_known, with_unknown, group, unknown_part, unknown_members}
use Rattle.partial_facts.specs.Residual.{residual_tree}
use Rattle.partial_facts.proofs.Neutral.{known-none, known-tree, neutral_second}
use Rattle.partial_facts.proofs.Refining.{Keeps, kept}
use Rattle.partial_facts.proofs.Leaving.{inner_unknown, Settles, unknown_unsettled, first_unsettled, others_unsettled}

with_alike : (x y : Option Bool) (d e : Tree) (ds es : Trees) → x ≡ y → (y ≡ None → d ≡ e) → ds ≡ es
    → with_unknown x d ds ≡ with_unknown y e es
with_alike x (Some b) d e ds es is f k = ap (λ z. with_unknown z d ds) is ∙ k
with_alike x None d e ds es is f k = ap (λ z. with_unknown z d ds) is ∙ (λ i. tree (f refl i) (k i))

unless_alike : (x y : Option Bool) (d e : Tree) → x ≡ y → (y ≡ None → d ≡ e) → unless_known x d ≡ unless_known y e
unless_alike x (Some b) d e is f = ap (λ z. unless_known z d) is
unless_alike x None d e is f = ap (λ z. unless_known z d) is ∙ f refl

module _ (more : Pair → Option Bool) where
  known_alone : (n : Bool) (e : Tree) → members_known n more (tree e none) ≡ kleene more e
  known_alone n e =
      known-tree n more e none ∙ ap (both n (kleene more e)) (known-none n more) ∙ neutral_second n (kleene more e)

  group_known : (n : Bool) (es : Trees) → kleene more (group (literal n) (grouped n) es) ≡ members_known n more es
  group_known true none = refl
  group_known false none = refl
  group_known n (tree e none) = sym (known_alone n e)
  group_known true (tree d (tree e es)) = refl
  group_known false (tree d (tree e es)) = refl

  with_known : (n : Bool) (x y z : Option Bool) (d : Tree) (ds : Trees) → Keeps x y → (Settles n x → ⊥)
      → (x ≡ None → kleene more d ≡ y) → members_known n more ds ≡ z
      → members_known n more (with_unknown x d ds) ≡ both n y z
  with_known true (Some true) y z d ds keeps other f k = k ∙ sym (ap (λ w. kleene_and w z) (keeps true refl))
  with_known true (Some false) y z d ds keeps other f k = absurd (other refl)
  with_known false (Some true) y z d ds keeps other f k = absurd (other refl)
  with_known false (Some false) y z d ds keeps other f k = k ∙ sym (ap (λ w. kleene_or w z) (keeps false refl))
  with_known n None y z d ds keeps other f k = known-tree n more d ds ∙ (λ i. both n (f refl i) (k i))

  -- a known member is known later too, and falls away then
  with_members : (x y : Option Bool) (d e : Tree) (ds es : Trees) → Keeps x y → (x ≡ None → kleene more d ≡ y)
      → (x ≡ None → y ≡ None → unknown_part more d ≡ e) → unknown_members more ds ≡ es
      → unknown_members more (with_unknown x d ds) ≡ with_unknown y e es
  with_members (Some b) y d e ds es keeps f g k = k ∙ sym (ap (λ w. with_unknown w e es) (keeps b refl))
  with_members None y d e ds es keeps f g k =
      with_alike (kleene more d) y (unknown_part more d) e (unknown_members more ds) es (f refl) (g refl) k

  group_part : (n : Bool) (es : Trees) → members_known n more es ≡ None
      → unknown_part more (group (literal n) (grouped n) es) ≡ group (literal n) (grouped n) (unknown_members more es)
  group_part n none h = cc (known-none n more)
  group_part n (tree e none) h =
      sym
      (ap (λ x. group (literal n) (grouped n) (with_unknown x (unknown_part more e) none))
      (sym (known_alone n e) ∙ h))
  group_part true (tree d (tree e es)) h = refl
  group_part false (tree d (tree e es)) h = refl

module _ (told more : Pair → Option Bool) (grows : TellsMore told more) where
  mutual
    part_known : (e : Tree) → kleene told e ≡ None → kleene more (unknown_part told e) ≡ kleene more e
    part_known (Not e) h = ap kleene_not (part_known e (inner_unknown (kleene told e) h))
    part_known (All es) h =
        group_known more true (unknown_members told es)
        ∙ members_known_later true es (unknown_unsettled true (members_known true told es) h)
    part_known (Any es) h =
        group_known more false (unknown_members told es)
        ∙ members_known_later false es (unknown_unsettled false (members_known false told es) h)
    part_known (Value c) h = refl
    part_known True h = refl
    part_known False h = refl

    members_known_later : (n : Bool) (es : Trees) → (Settles n (members_known n told es) → ⊥)
        → members_known n more (unknown_members told es) ≡ members_known n more es
    members_known_later n none h = refl
    members_known_later n (tree e es) h =
        with_known more n (kleene told e) (kleene more e) (members_known n more es) (unknown_part told e)
        (unknown_members told es) (kept told more grows e)
        (first_unsettled n told e es h) (part_known e) (members_known_later n es (others_unsettled n told e es h))
        ∙ sym (known-tree n more e es)

  group_part_left : (n : Bool) (es : Trees) → members_known n told es ≡ None → members_known n more es ≡ None
      → unknown_members more (unknown_members told es) ≡ unknown_members more es
      → unknown_part more (group (literal n) (grouped n) (unknown_members told es))
      ≡ group (literal n) (grouped n) (unknown_members more es)
  group_part_left n es h k left =
      group_part more n (unknown_members told es)
      (members_known_later n es (unknown_unsettled n (members_known n told es) h) ∙ k)
      ∙ ap (group (literal n) (grouped n)) left

  mutual
    part_left : (e : Tree) → kleene told e ≡ None → kleene more e ≡ None
        → unknown_part more (unknown_part told e) ≡ unknown_part more e
    part_left (Not e) h k = ap Not (part_left e (inner_unknown (kleene told e) h) (inner_unknown (kleene more e) k))
    part_left (All es) h k = group_part_left true es h k (members_left es)
    part_left (Any es) h k = group_part_left false es h k (members_left es)
    part_left (Value c) h k = refl
    part_left True h k = refl
    part_left False h k = refl

    members_left : (es : Trees) → unknown_members more (unknown_members told es) ≡ unknown_members more es
    members_left none = refl
    members_left (tree e es) =
        with_members more (kleene told e) (kleene more e) (unknown_part told e) (unknown_part more e)
        (unknown_members told es) (unknown_members more es)
        (kept told more grows e) (part_known e) (part_left e) (members_left es)

  left_later : (x : Option Bool) (d e : Tree) → Keeps x (kleene more e) → (x ≡ None → kleene more d ≡ kleene more e)
      → (x ≡ None → kleene more e ≡ None → unknown_part more d ≡ unknown_part more e)
      → residual_tree more (unless_known x d) ≡ residual_tree more e
  left_later (Some true) d e keeps f g = sym (ap (λ x. unless_known x (unknown_part more e)) (keeps true refl))
  left_later (Some false) d e keeps f g = sym (ap (λ x. unless_known x (unknown_part more e)) (keeps false refl))
  left_later None d e keeps f g =
      unless_alike (kleene more d) (kleene more e) (unknown_part more d) (unknown_part more e) (f refl) (g refl)

  pub in_steps : (e : Tree) → residual_tree more (residual_tree told e) ≡ residual_tree more e
  in_steps e = left_later (kleene told e) (unknown_part told e) e (kept told more grows e) (part_known e) (part_left e)
