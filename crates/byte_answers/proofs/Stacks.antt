-- The truths on a stack are those of the expressions that records leave.
use Rattle.std.proofs.Common.{◌≡◌, refl, sym, ap, ◌∙◌, subst, ℕ, suc, List, [], ◌∷◌, ◌++◌, length, map, reverse, arith}
use Rattle.std.proofs.Common.{Bool, true, false, not, ◌&&◌, ◌||◌, ◌≤◌, ◌+◌, ◌-◌, ◌<◌, append_assoc, append-nil}
use Rattle.std.specs.List.{list_all, list_any}
use Rattle.std.proofs.lemmas.List.{reverse-append, nil_from_length, length-append, length-map, length-reverse}
use Rattle.cargo_platform.specs.Trees.{Tree, Not, All, Any, Value, True, False, trees_of, CfgValue}
use Rattle.cargo_platform.specs.Facts.{FactSet, truth, all_true, any_true}
use Rattle.byte_answers.specs.Flat.{flat, flats}
use Rattle.byte_answers.specs.Pieces.{Piece, leaf, yes, no, negation, all_of, any_of, Leaves}
use Rattle.byte_answers.specs.Truths.{AreTruths}
use Rattle.byte_answers.proofs.Pieces.{piece_sizes}
use Rattle.byte_answers.proofs.Building.{expression_ended}

all_truths : (s : FactSet) (es : List Tree) → list_all (λ b. b) (map (truth s) es) ≡ all_true s (trees_of es)
all_truths s [] = refl
all_truths s (e ∷ es) = ap (λ b. truth s e && b) (all_truths s es)

any_truths : (s : FactSet) (es : List Tree) → list_any (λ b. b) (map (truth s) es) ≡ any_true s (trees_of es)
any_truths s [] = refl
any_truths s (e ∷ es) = ap (λ b. truth s e || b) (any_truths s es)

pub pushed_truth : (s : FactSet) (st : List Tree) (e : Tree) (old new : List Bool) (b : Bool) → new ≡ old ++ b ∷ []
    → b ≡ truth s e → map (truth s) st ≡ reverse old → AreTruths s (e ∷ st) new
pushed_truth s st e old new b pushed is truths =
    (λ i. sym is i ∷ truths i) ∙ sym (ap reverse pushed ∙ reverse-append old (b ∷ []))

record HasTop (s : FactSet) (st : List Tree) (b : Bool) (bs : List Bool) : Type 0 where
  pub top : Tree
  pub rest : List Tree
  pub is : st ≡ top ∷ rest
  pub top_truth : truth s top ≡ b
  pub rest_truths : map (truth s) rest ≡ bs

top_of : (s : FactSet) (st : List Tree) (b : Bool) (bs : List Bool) → map (truth s) st ≡ b ∷ bs → HasTop s st b bs
top_of s [] b bs is = absurd (let bad : [] ≡ b ∷ bs = is in cc)
top_of s (e ∷ rest) b bs is =
    let same : truth s e ∷ map (truth s) rest ≡ b ∷ bs = is in
    record {
      top = e;
      rest = rest;
      is = refl;
      top_truth = let it : truth s e ≡ b = cc in it;
      rest_truths = let it : map (truth s) rest ≡ bs = cc in it;
    }

record HasTops (s : FactSet) (st : List Tree) (taken bs : List Bool) : Type 0 where
  pub tops : List Tree
  pub rest : List Tree
  pub is : st ≡ tops ++ rest
  pub size : length tops ≡ length taken
  pub top_truths : map (truth s) tops ≡ taken
  pub rest_truths : map (truth s) rest ≡ bs

tops_of : (s : FactSet) (st : List Tree) (taken bs : List Bool) → map (truth s) st ≡ taken ++ bs → HasTops s st taken bs
tops_of s st [] bs is =
    record { tops = []; rest = st; is = refl; size = refl; top_truths = refl; rest_truths = is }
tops_of s st (b ∷ taken) bs is =
    let t = top_of s st b (taken ++ bs) is in
    let h = tops_of s t.rest taken bs t.rest_truths in
    record {
      tops = t.top ∷ h.tops;
      rest = h.rest;
      is = t.is ∙ ap (λ (z : List Tree). t.top ∷ z) h.is;
      size = ap suc h.size;
      top_truths = λ i. t.top_truth i ∷ h.top_truths i;
      rest_truths = h.rest_truths;
    }

-- what a record leaves, with truths
abbrev pub LeavesTruths : FactSet → Piece → List Tree → List Bool → Type 0
LeavesTruths s p st new = (next : List Tree) × (Leaves p st next × AreTruths s next new)

pub leaves_value : (s : FactSet) (c : CfgValue) (p : Piece) (st : List Tree) (old new : List Bool) (b : Bool)
    → p ≡ leaf c → b ≡ truth s (Value c) → new ≡ old ++ b ∷ [] → AreTruths s st old → LeavesTruths s p st new
leaves_value s c p st old new b which is pushed truths =
    subst (λ (z : Piece). LeavesTruths s z st new) (sym which)
    (Value c ∷ st, (refl, pushed_truth s st (Value c) old new b pushed is truths))

pub leaves_yes : (s : FactSet) (p : Piece) (st : List Tree) (old new : List Bool) → p ≡ yes → new ≡ old ++ true ∷ []
    → AreTruths s st old → LeavesTruths s p st new
leaves_yes s p st old new which pushed truths =
    subst (λ (z : Piece). LeavesTruths s z st new) (sym which)
    (True ∷ st, (refl, pushed_truth s st True old new true pushed refl truths))

pub leaves_no : (s : FactSet) (p : Piece) (st : List Tree) (old new : List Bool) → p ≡ no → new ≡ old ++ false ∷ []
    → AreTruths s st old → LeavesTruths s p st new
leaves_no s p st old new which pushed truths =
    subst (λ (z : Piece). LeavesTruths s z st new) (sym which)
    (False ∷ st, (refl, pushed_truth s st False old new false pushed refl truths))

pub leaves_not : (s : FactSet) (p : Piece) (st : List Tree) (old mid new : List Bool) (b : Bool) → p ≡ negation
    → old ≡ mid ++ b ∷ [] → new ≡ mid ++ not b ∷ [] → AreTruths s st old → LeavesTruths s p st new
leaves_not s p st old mid new b which popped pushed truths =
    let t = top_of s st b (reverse mid) (truths ∙ ap reverse popped ∙ reverse-append mid (b ∷ [])) in
    subst (λ (z : Piece). LeavesTruths s z st new) (sym which) (
      Not t.top ∷ t.rest,
      (
        (t.top, (t.rest, (t.is, refl))),
        pushed_truth s t.rest (Not t.top) mid new (not b) pushed (ap not (sym t.top_truth)) t.rest_truths,
      ),
    )

pub leaves_all : (s : FactSet) (p : Piece) (n : ℕ) (st : List Tree) (old mid new taken : List Bool) (b : Bool)
    → p ≡ all_of n → reverse old ≡ taken ++ reverse mid → length taken ≡ n → b ≡ list_all (λ x. x) taken
    → new ≡ mid ++ b ∷ [] → AreTruths s st old → LeavesTruths s p st new
leaves_all s p n st old mid new taken b which popped size is pushed truths =
    let t = tops_of s st taken (reverse mid) (truths ∙ popped) in
    subst (λ (z : Piece). LeavesTruths s z st new) (sym which) (
      All (trees_of t.tops) ∷ t.rest,
      (
        (t.tops, t.rest, (t.size ∙ size, t.is, refl)),
        pushed_truth s t.rest (All (trees_of t.tops)) mid new b pushed
            (is ∙ ap (list_all (λ x. x)) (sym t.top_truths) ∙ all_truths s t.tops) t.rest_truths,
      ),
    )

pub leaves_any : (s : FactSet) (p : Piece) (n : ℕ) (st : List Tree) (old mid new taken : List Bool) (b : Bool)
    → p ≡ any_of n → reverse old ≡ taken ++ reverse mid → length taken ≡ n → b ≡ list_any (λ x. x) taken
    → new ≡ mid ++ b ∷ [] → AreTruths s st old → LeavesTruths s p st new
leaves_any s p n st old mid new taken b which popped size is pushed truths =
    let t = tops_of s st taken (reverse mid) (truths ∙ popped) in
    subst (λ (z : Piece). LeavesTruths s z st new) (sym which) (
      Any (trees_of t.tops) ∷ t.rest,
      (
        (t.tops, t.rest, (t.size ∙ size, t.is, refl)),
        pushed_truth s t.rest (Any (trees_of t.tops)) mid new b pushed
            (is ∙ ap (list_any (λ x. x)) (sym t.top_truths) ∙ any_truths s t.tops) t.rest_truths,
      ),
    )

pub truths_size : (s : FactSet) (st : List Tree) (built : List Bool) → AreTruths s st built → length st ≡ length built
truths_size s st built truths =
    sym (length-map st (truth s)) ∙ ap length truths ∙ length-reverse built

-- each expression has bytes
flat_long : (e : Tree) → 17 ≤ length (flat e)
flat_long e =
    let h = expression_ended (flat e) e refl in
    (piece_sizes (flat e) h.front h.last h.is).long

pub stack_long : (st : List Tree) → length st ≤ length (flats (trees_of st))
stack_long [] = omega arith
stack_long (e ∷ st) =
    omega (arith, stack_long st, flat_long e, length-append (flat e) (flats (trees_of st)))

-- one more truth is taken
and_true : (b : Bool) → (b && true) ≡ b
and_true true = refl
and_true false = refl

or_false : (b : Bool) → (b || false) ≡ b
or_false true = refl
or_false false = refl

and_assoc : (a b c : Bool) → (a && (b && c)) ≡ ((a && b) && c)
and_assoc true b c = refl
and_assoc false b c = refl

or_assoc : (a b c : Bool) → (a || (b || c)) ≡ ((a || b) || c)
or_assoc true b c = refl
or_assoc false b c = refl

pub all_more : (taken : List Bool) (b : Bool) → list_all (λ x. x) (taken ++ b ∷ []) ≡ (list_all (λ x. x) taken && b)
all_more [] b = and_true b
all_more (x ∷ taken) b = ap (λ y. x && y) (all_more taken b) ∙ and_assoc x (list_all (λ y. y) taken) b

pub any_more : (taken : List Bool) (b : Bool) → list_any (λ x. x) (taken ++ b ∷ []) ≡ (list_any (λ x. x) taken || b)
any_more [] b = or_false b
any_more (x ∷ taken) b = ap (λ y. x || y) (any_more taken b) ∙ or_assoc x (list_any (λ y. y) taken) b

abbrev pub HasTaken : List Bool → List Bool → ℕ → ℕ → Bool → Bool → Type 0
HasTaken old new left count all any =
    (taken : List Bool) × ((reverse old ≡ taken ++ reverse new) × (length taken + left ≡ count)
    × (all ≡ list_all (λ x. x) taken) × (any ≡ list_any (λ x. x) taken))

pub taken_more : (old built new taken : List Bool) (b : Bool) (left count : ℕ) (all any more_all more_any : Bool)
    → reverse old ≡ taken ++ reverse built → built ≡ new ++ b ∷ [] → length taken + left ≡ count → 0 < left
    → all ≡ list_all (λ x. x) taken → any ≡ list_any (λ x. x) taken → more_all ≡ (all && b) → more_any ≡ (any || b)
    → HasTaken old new (left - 1) count more_all more_any
taken_more old built new taken b left count all any more_all more_any before popped size some alls anys one two = (
  taken ++ b ∷ [],
  (
    before
        ∙ ap (λ (z : List Bool). taken ++ z) (ap reverse popped ∙ reverse-append new (b ∷ []))
        ∙ sym (append_assoc taken (b ∷ []) (reverse new)),
    omega (arith, size, some, length-append taken (b ∷ [])),
    one ∙ ap (λ (x : Bool). x && b) alls ∙ sym (all_more taken b),
    two ∙ ap (λ (x : Bool). x || b) anys ∙ sym (any_more taken b),
  ),
)

-- at the end the one truth is that of the expression
pub alone_left : (s : FactSet) (bytes left : List ℕ) (st : List Tree) (built new : List Bool) (b : Bool) → left ≡ []
    → bytes ≡ left ++ flats (trees_of st) → AreTruths s st built → built ≡ new ++ b ∷ [] → length new ≡ 0
    → (e : Tree) × ((flat e ≡ bytes) × (b ≡ truth s e))
alone_left s bytes left st built new b ended is truths popped empty =
    let t = top_of s st b (reverse new) (truths ∙ ap reverse popped ∙ reverse-append new (b ∷ [])) in
    let none : t.rest ≡ [] =
    nil_from_length t.rest
    (sym (length-map t.rest (truth s)) ∙ ap length t.rest_truths ∙ length-reverse new ∙ empty) in (
      t.top,
      (
        sym (
            is
            ∙ ap (λ (z : List ℕ). z ++ flats (trees_of st)) ended
            ∙ ap (λ (z : List Tree). flats (trees_of z)) (t.is ∙ ap (λ (z : List Tree). t.top ∷ z) none)
            ∙ append-nil (flat t.top)
            ),
        sym t.top_truth,
      ),
    )
