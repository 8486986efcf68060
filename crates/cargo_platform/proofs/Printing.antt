-- A print grows piece by piece.
use Rattle.std.proofs.Common.{◌≡◌, refl, sym, ap, ◌∙◌, subst, ℕ, zero, suc, ◌+◌, ◌≤◌, ◌<◌, ◌≢◌, true, false}
use Rattle.std.proofs.Common.{List, [], ◌∷◌, ◌++◌, codes}
use Rattle.std.proofs.Common.{length, map, append_assoc, append-nil, arith}
use Rattle.std.proofs.Common.{Bool, ◌&&◌, not, ◌==◌, true≢false}
use Rattle.std.proofs.lemmas.Bool.{eqb-true}
use Rattle.std.proofs.lemmas.List.{nil_from_length}
use Rattle.std.proofs.lemmas.List.Sums.{sum_by-cons}
use Rattle.std.proofs.Output.{has_written_append, has_written_of_eq}
use Rattle.std.specs.declared.fmt.Formatter.{Formatter}
use Rattle.std.specs.Fmt.{HasWritten}
use Rattle.cargo_platform.specs.declared.cfg.CfgExpr.{CfgExpr}
use Rattle.cargo_platform.specs.declared.cfg.CfgExpr.TheOpen as layer
use Rattle.cargo_platform.specs.declared.cfg.CfgExpr.TheFolds.{fold_out-CfgExpr, map-CfgExpr}
use Rattle.cargo_platform.specs.declared.cfg.CfgExpr.TheViews.{out-CfgExpr}
use Rattle.cargo_platform.specs.Trees.{Tree, Not, All, Any, Value, True, False, Trees, none, tree, tree_of, trees_of}
use Rattle.cargo_platform.specs.Print.{print, print_members, print_value}
use Rattle.cargo_platform.specs.Inside.Printing.{is_group, word, begun, begun_members, between, ending, ending_last}
use Rattle.cargo_platform.specs.Inside.Printing.{closed}
use Rattle.cargo_platform.specs.Inside.Printing.{HasWrittenBut}
use Rattle.cargo_platform.specs.ExpressionSizes.{size_step, node_count, node_counts}

module _ {W : Type 0} (took : W → List ℕ → W → Type 0) where
  pub piece_written : (f g h : Formatter W) (text piece left : List ℕ) → HasWrittenBut took f text (piece ++ left) g
      → HasWritten took g piece h → HasWrittenBut took f text left h
  piece_written f g h text piece left so_far next = record {
    done = so_far.done ++ piece;
    wrote = has_written_append took _ _ _ _ _ so_far.wrote next;
    whole = append_assoc so_far.done piece left ∙ so_far.whole;
  }

  pub all_written : (f g : Formatter W) (text : List ℕ) → HasWrittenBut took f text [] g → HasWritten took f text g
  all_written f g text so_far =
      has_written_of_eq took _ _ text _ (sym (append-nil so_far.done) ∙ so_far.whole) so_far.wrote

closed_more : (n : ℕ) → closed n ++ codes ")" ≡ codes ")" ++ closed n
closed_more zero = refl
closed_more (suc n) = ap (λ (z : List ℕ). codes ")" ++ z) (closed_more n)

-- what is around the printed text of an expression or a list
around : (word print begun : List ℕ) (n : ℕ) → print ≡ begun ++ closed n
    → word ++ print ++ codes ")" ≡ (word ++ begun) ++ (codes ")" ++ closed n)
around word print begun n same =
    ap (λ (z : List ℕ). word ++ z ++ codes ")") same
    ∙ append_assoc word (begun ++ closed n) (codes ")")
    ∙ ap (λ (z : List ℕ). word ++ z) (append_assoc begun (closed n) (codes ")"))
    ∙ ap (λ (z : List ℕ). word ++ (begun ++ z)) (closed_more n)
    ∙ sym (append_assoc word begun (codes ")" ++ closed n))

mutual
  -- a print is what is before the parentheses that end it, and these
  pub print_is : (e : Tree) → print e ≡ begun e ++ closed (ending e)
  print_is (Not e) = around (codes "not(") (print e) (begun e) (ending e) (print_is e)
  print_is (All es) = around (codes "all(") (print_members es) (begun_members es) (ending_last es) (members_are es)
  print_is (Any es) = around (codes "any(") (print_members es) (begun_members es) (ending_last es) (members_are es)
  print_is (Value c) = sym (append-nil (print_value c))
  print_is True = refl
  print_is False = refl

  members_are : (es : Trees) → print_members es ≡ begun_members es ++ closed (ending_last es)
  members_are none = refl
  members_are (tree e none) = print_is e
  members_are (tree e (tree d es)) =
      ap (λ (z : List ℕ). print e ++ codes ", " ++ z) (members_are (tree d es))
      ∙ sym (append_assoc (print e ++ codes ", ") (begun_members (tree d es)) (closed (ending_last (tree d es))))

-- what is before the last members is the same for an expression and for a list of it alone
pub members_begun : (e : Tree) (es : List CfgExpr) → is_group e ≡ false
    → begun_members (tree e (trees_of (map tree_of es)))
    ≡ word e ++ (between es ++ begun_members (trees_of (map tree_of es)))
members_begun (Not e) es leaf = absurd (true≢false leaf)
members_begun (All ds) es leaf = absurd (true≢false leaf)
members_begun (Any ds) es leaf = absurd (true≢false leaf)
members_begun (Value c) [] leaf = sym (append-nil (print_value c))
members_begun (Value c) (e ∷ es) leaf =
    append_assoc (print_value c) (codes ", ") (begun_members (trees_of (map tree_of (e ∷ es))))
members_begun True [] leaf = refl
members_begun True (e ∷ es) leaf = refl
members_begun False [] leaf = refl
members_begun False (e ∷ es) leaf = refl

-- after a group that others follow is a comma
pub group_begun : (e : Tree) (es : List CfgExpr) → 0 < length es
    → begun_members (tree e (trees_of (map tree_of es)))
    ≡ print e ++ (codes ", " ++ begun_members (trees_of (map tree_of es)))
group_begun e [] some = absurd (omega (arith, some))
group_begun e (d ∷ es) some = append_assoc (print e) (codes ", ") (begun_members (trees_of (map tree_of (d ∷ es))))

last_ends : (es : List CfgExpr) (e : CfgExpr) → ending_last (trees_of (map tree_of (es ++ e ∷ []))) ≡ ending (tree_of e)
last_ends [] e = refl
last_ends (d ∷ []) e = refl
last_ends (c ∷ (d ∷ es)) e = last_ends (d ∷ es) e

-- the last member ends as the list does
pub list_ends : (ls es : List CfgExpr) (e : CfgExpr) → ls ≡ es ++ e ∷ []
    → ending_last (trees_of (map tree_of ls)) ≡ ending (tree_of e)
list_ends ls es e is = ap (λ z. ending_last (trees_of (map tree_of z))) is ∙ last_ends es e

followed : (ls es : List CfgExpr) (e : CfgExpr) → ls ≡ e ∷ es → length ls ≢ 1 → 0 < length es
followed ls [] e is some = absurd (some (ap length is))
followed ls (d ∷ es) e is some = omega arith

not_false : (b : Bool) → not b ≡ false → b ≡ true
not_false true so = refl
not_false false so = absurd (true≢false so)

-- a group that no others follow
alone : (b : Bool) (es : List CfgExpr) → (b && not (length es == 0)) ≡ false → b ≡ true → es ≡ []
alone true es so grouped = nil_from_length es (eqb-true (length es) 0 (not_false (length es == 0) so))
alone false es so grouped = absurd (true≢false (sym grouped))

step_positive : (x : layer.CfgExpr-F ℕ) → 1 ≤ size_step x
step_positive (layer.Not e) = omega arith
step_positive (layer.All es) = omega arith
step_positive (layer.Any es) = omega arith
step_positive (layer.Value c) = omega arith
step_positive layer.True = omega arith
step_positive layer.False = omega arith

size_positive : (e : CfgExpr) → 1 ≤ node_count e
size_positive e =
    rw (fold_out-CfgExpr ℕ size_step e) (step_positive (map-CfgExpr CfgExpr ℕ node_count (out-CfgExpr e)))

size_of_first : (e : CfgExpr) (es : List CfgExpr) → node_counts (e ∷ es) ≡ node_count e + node_counts es
size_of_first e es = sum_by-cons (λ (x : ℕ). x) (node_count e) (map node_count es)

-- the others are smaller than the list
pub others_smaller : (ls es : List CfgExpr) (e : CfgExpr) → ls ≡ e ∷ es → node_counts es < node_counts ls
others_smaller ls es e is = omega (arith, ap node_counts is, size_of_first e es, size_positive e)

pub first_within : (ls es : List CfgExpr) (e : CfgExpr) → ls ≡ e ∷ es → node_count e ≤ node_counts ls
first_within ls es e is = omega (arith, ap node_counts is, size_of_first e es)

-- a member that others follow is smaller than the list
pub first_smaller : (ls es : List CfgExpr) (e : CfgExpr) → ls ≡ e ∷ es → length ls ≢ 1 → node_count e < node_counts ls
first_smaller ls [] e is some = absurd (some (ap length is))
first_smaller ls (d ∷ es) e is some =
    omega (arith, ap node_counts is, size_of_first e (d ∷ es), size_of_first d es, size_positive d)

module _ {W : Type 0} (took : W → List ℕ → W → Type 0) where
  -- a leaf and what is after it
  pub leaf_written : (f g h k : Formatter W) (text : List ℕ) (ls es : List CfgExpr) (e : CfgExpr) → ls ≡ e ∷ es
      → is_group (tree_of e) ≡ false → HasWrittenBut took f text (begun_members (trees_of (map tree_of ls))) g
      → HasWritten took g (word (tree_of e)) h → HasWritten took h (between es) k
      → HasWrittenBut took f text (begun_members (trees_of (map tree_of es))) k
  leaf_written f g h k text ls es e is leaf so_far first behind =
      let same = ap (λ z. begun_members (trees_of (map tree_of z))) is ∙ members_begun (tree_of e) es leaf in
      piece_written took f h k text (between es) (begun_members (trees_of (map tree_of es)))
      (piece_written took f g h text (word (tree_of e)) (between es ++ begun_members (trees_of (map tree_of es)))
      (rw (← same) so_far) first) behind

  -- what a group begins with that no others follow
  pub group_opened : (f g h : Formatter W) (text : List ℕ) (ls es : List CfgExpr) (e : CfgExpr) (ms : List CfgExpr)
      → ls ≡ e ∷ es → (is_group (tree_of e) && not (length es == 0)) ≡ false → is_group (tree_of e) ≡ true
      → begun (tree_of e) ≡ word (tree_of e) ++ begun_members (trees_of (map tree_of ms))
      → HasWrittenBut took f text (begun_members (trees_of (map tree_of ls))) g → HasWritten took g (word (tree_of e)) h
      → HasWrittenBut took f text (begun_members (trees_of (map tree_of ms))) h
  group_opened f g h text ls es e ms is so grouped begins so_far first =
      let same = ap (λ z. begun_members (trees_of (map tree_of z)))
      (is ∙ ap (λ (z : List CfgExpr). e ∷ z) (alone (is_group (tree_of e)) es so grouped)) in
      piece_written took f g h text (word (tree_of e)) (begun_members (trees_of (map tree_of ms)))
      (rw (← same ∙ begins) so_far) first

  -- a whole group that others follow, and the comma
  pub group_written : (f g h k : Formatter W) (text : List ℕ) (ls es : List CfgExpr) (e : CfgExpr) → ls ≡ e ∷ es
      → length ls ≢ 1 → HasWrittenBut took f text (begun_members (trees_of (map tree_of ls))) g
      → HasWritten took g (print (tree_of e)) h → HasWritten took h (codes ", ") k
      → HasWrittenBut took f text (begun_members (trees_of (map tree_of es))) k
  group_written f g h k text ls es e is some so_far group comma =
      let same = ap (λ z. begun_members (trees_of (map tree_of z))) is
      ∙ group_begun (tree_of e) es (followed ls es e is some) in
      piece_written took f h k text (codes ", ") (begun_members (trees_of (map tree_of es)))
      (piece_written took f g h text (print (tree_of e)) (codes ", " ++ begun_members (trees_of (map tree_of es)))
      (rw (← same) so_far) group) comma

  -- a part of what is left
  pub further_written : (f g h : Formatter W) (text left rest : List ℕ) → HasWrittenBut took f text left g
      → HasWrittenBut took g left rest h → HasWrittenBut took f text rest h
  further_written f g h text left rest so_far next =
      piece_written took f g h text next.done rest (rw next.whole so_far) next.wrote

  -- one parenthesis
  pub end_written : (f g h : Formatter W) (text : List ℕ) (n m : ℕ) → HasWrittenBut took f text (closed n) g
      → HasWritten took g (codes ")") h → n ≡ suc m → HasWrittenBut took f text (closed m) h
  end_written f g h text n m so_far one is =
      piece_written took f g h text (codes ")") (closed m) (rw is at so_far) one

  pub all_ends_written : (f g : Formatter W) (text : List ℕ) (n : ℕ) → HasWrittenBut took f text (closed n) g → n ≡ zero
      → HasWritten took f text g
  all_ends_written f g text n so_far is =
      all_written took f g text (rw is at so_far)

  -- no member is left
  pub no_member_left : (f g : Formatter W) (text : List ℕ) (ls : List CfgExpr) → length ls ≡ 0
      → HasWrittenBut took f text (begun_members (trees_of (map tree_of ls))) g → HasWrittenBut took f text [] g
  no_member_left f g text ls gone so_far =
      subst (λ (z : List CfgExpr). HasWrittenBut took f text (begun_members (trees_of (map tree_of z))) g)
      (nil_from_length ls gone) so_far

  -- the beginning of an expression, and the parentheses that end it
  pub whole_written : (f g h : Formatter W) (e : Tree) → HasWrittenBut took f (begun e) [] g
      → HasWritten took g (closed (ending e)) h → HasWritten took f (print e) h
  whole_written f g h e so_far ends =
      has_written_of_eq took _ _ (print e) _ (sym (print_is e))
      (has_written_append took _ _ _ _ _ (all_written took f g (begun e) so_far) ends)
