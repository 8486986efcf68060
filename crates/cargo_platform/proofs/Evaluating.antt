-- An expression that is evaluated while it is read, step by step.
use Rattle.std.proofs.Common.{◌≡◌, refl, sym, ap, ◌∙◌, subst, ℕ, zero, suc, ◌+◌, ◌*◌, ◌/◌, ◌%◌, ◌<◌, ◌≤◌}
use Rattle.std.proofs.Common.{Bool, true, false, not, ◌&&◌, ◌||◌, List, [], ◌∷◌, ◌++◌, arith, true≢false, leb}
use Rattle.std.specs.Prelude.{if◌then◌else◌, bytes_eq}
use Rattle.std.specs.declared.cmp.Ordering.{Ordering}
use Rattle.std.specs.declared.cmp.Ordering.TheVariants.{Less, Equal, Greater}
use Rattle.std.specs.Ordering.{ordering_then, is_eq, eq_by_cmp}
use Rattle.std.specs.Cmp.Lexicographic.{texts_ties}
use Rattle.cargo_platform.specs.declared.matching.Kind.{Kind}
use Rattle.cargo_platform.specs.declared.matching.Kind.TheVariants as kinds
use Rattle.cargo_platform.specs.declared.parser.Listing.{Listing}
use Rattle.cargo_platform.specs.declared.parser.Listing.TheVariants as listing
use Rattle.cargo_platform.specs.Trees.{Name, KeyPair, Tree, Not, trees_of}
use Rattle.cargo_platform.specs.Key.{name_cmp, text_cmp, value_cmp}
use Rattle.cargo_platform.specs.Facts.{FactSet, truth, all_true, any_true}
use Rattle.cargo_platform.specs.Spelling.{Expressions}
use Rattle.cargo_platform.specs.Walk.{Opening, Negated, Listed, list_tree, Position, WithTree}
use Rattle.cargo_platform.specs.Inside.Ahead.{Ahead}
use Rattle.cargo_platform.specs.Inside.Parsing.{is_all, Reads}
use Rattle.cargo_platform.specs.Inside.Matching.{fresh, IsIn, is_decided, is_settled, IsAnswer, code_of, level, Words}
use Rattle.cargo_platform.specs.Inside.Matching.{around_by, around, Hold, Ends}
use Rattle.cargo_platform.proofs.LastMembers.{or_false}

-- ---- facts in a list

tied_first : (a b : Ordering) → is_eq a ≡ true → is_eq (ordering_then a b) ≡ is_eq b
tied_first Less b h = cc
tied_first Equal b h = refl
tied_first Greater b h = cc

untied_first : (a b : Ordering) → is_eq a ≡ false → is_eq (ordering_then a b) ≡ false
untied_first Less b h = refl
untied_first Equal b h = cc
untied_first Greater b h = refl

-- pairs of different keys differ
pub other_key : (j k : Name) (u v : List ℕ) → bytes_eq j.name k.name ≡ false
    → eq_by_cmp value_cmp (KeyPair j u) (KeyPair k v) ≡ false
other_key j k u v differ = untied_first (name_cmp j k) (text_cmp u v) (sym (texts_ties j.name k.name) ∙ differ)

-- pairs of one key are equal where their values are
pub same_key : (j k : Name) (u v : List ℕ) → bytes_eq j.name k.name ≡ true
    → bytes_eq u v ≡ eq_by_cmp value_cmp (KeyPair j u) (KeyPair k v)
same_key j k u v same =
    texts_ties u v ∙ sym (tied_first (name_cmp j k) (text_cmp u v) (sym (texts_ties j.name k.name) ∙ same))

-- ---- the bits of a group

code_above : (g : Opening) → 1 ≤ code_of g
code_above Negated = omega arith
code_above (Listed true es) = omega arith
code_above (Listed false es) = omega arith

code_below : (g : Opening) → code_of g < 4
code_below Negated = omega arith
code_below (Listed true es) = omega arith
code_below (Listed false es) = omega arith

kind_bits : (n c : ℕ) (settled : Bool) → c < 4 → n % 8 ≡ c + (if settled then 4 else 0) → n % 4 ≡ c
kind_bits n c true below is = omega arith
kind_bits n c false below is = omega arith

some_bits : (n c : ℕ) (settled : Bool) → 1 ≤ c → n % 8 ≡ c + (if settled then 4 else 0) → 1 ≤ n
some_bits n c true above is = omega arith
some_bits n c false above is = omega arith

kind_of : (fs : FactSet) (w : Words) (g : Opening) (gs : List Opening) → Hold fs w (g ∷ gs) → w.inner % 4 ≡ code_of g
kind_of fs w g gs h = kind_bits w.inner (code_of g) (is_settled fs (g ∷ gs)) (code_below g) h.0

pub is_not : (fs : FactSet) (w : Words) (gs : List Opening) → w.inner % 4 ≡ 1 → Hold fs w gs → IsIn kinds.Not gs
is_not fs w [] is h = absurd (omega (arith, h.0))
is_not fs w (Negated ∷ gs) is h = (Negated, gs, refl, refl)
is_not fs w (Listed true es ∷ gs) is h = absurd (omega (arith, kind_of fs w (Listed true es) gs h))
is_not fs w (Listed false es ∷ gs) is h = absurd (omega (arith, kind_of fs w (Listed false es) gs h))

pub is_list_of_all : (fs : FactSet) (w : Words) (gs : List Opening) → w.inner % 4 ≡ 2 → Hold fs w gs
    → IsIn (kinds.List listing.All) gs
is_list_of_all fs w [] is h = absurd (omega (arith, h.0))
is_list_of_all fs w (Negated ∷ gs) is h = absurd (omega (arith, kind_of fs w Negated gs h))
is_list_of_all fs w (Listed true es ∷ gs) is h = (Listed true es, gs, refl, (es, refl))
is_list_of_all fs w (Listed false es ∷ gs) is h = absurd (omega (arith, kind_of fs w (Listed false es) gs h))

pub is_list_of_any : (fs : FactSet) (w : Words) (gs : List Opening) → w.inner % 4 ≡ 3 → Hold fs w gs
    → IsIn (kinds.List listing.Any) gs
is_list_of_any fs w [] is h = absurd (omega (arith, h.0))
is_list_of_any fs w (Negated ∷ gs) is h = absurd (omega (arith, kind_of fs w Negated gs h))
is_list_of_any fs w (Listed true es ∷ gs) is h = absurd (omega (arith, kind_of fs w (Listed true es) gs h))
is_list_of_any fs w (Listed false es ∷ gs) is h = (Listed false es, gs, refl, (es, refl))

-- bits of no group are all 0
pub is_none : (fs : FactSet) (w : Words) (gs : List Opening) → (w.inner % 4 ≡ 1 → ⊥) → (w.inner % 4 ≡ 2 → ⊥)
    → (w.inner % 4 ≡ 3 → ⊥) → Hold fs w gs → gs ≡ []
is_none fs w [] a b c h = refl
is_none fs w (Negated ∷ gs) a b c h = absurd (a (kind_of fs w Negated gs h))
is_none fs w (Listed true es ∷ gs) a b c h = absurd (b (kind_of fs w (Listed true es) gs h))
is_none fs w (Listed false es ∷ gs) a b c h = absurd (c (kind_of fs w (Listed false es) gs h))

level_test : (g : Opening) (settled : Bool) → leb 4 (code_of g + (if settled then 4 else 0)) ≡ settled
level_test Negated true = refl
level_test Negated false = refl
level_test (Listed true es) true = refl
level_test (Listed true es) false = refl
level_test (Listed false es) true = refl
level_test (Listed false es) false = refl

-- whether the groups are settled, by the bits of the innermost one
pub settled_bits : (fs : FactSet) (w : Words) (gs : List Opening) → Hold fs w gs
    → leb 4 (w.inner % 8) ≡ is_settled fs gs
settled_bits fs w [] h = ap (λ n. leb 4 (n % 8)) h.0
settled_bits fs w (g ∷ gs) h = ap (leb 4) h.0 ∙ level_test g (is_settled fs (g ∷ gs))

-- ---- one group more, or one less

-- words are those around an innermost group without bits
pub same_words : (fs : FactSet) (n : ℕ) (os : List ℕ) (gs : List Opening)
    → Hold fs (record { inner = n; outer = os }) gs → around_by n os ≡ record { inner = n; outer = os }
same_words fs (suc n) os gs h = refl
same_words fs zero [] gs h = refl
same_words fs zero (o ∷ os) [] h = absurd cc
same_words fs zero (o ∷ os) (g ∷ gs) h =
    absurd (omega (arith, some_bits 0 (code_of g) (is_settled fs (g ∷ gs)) (code_above g) h.0))

fresh_undecided : (fs : FactSet) (kind : Kind) → is_decided fs (fresh kind) ≡ false
fresh_undecided fs kinds.Not = refl
fresh_undecided fs (kinds.List listing.All) = refl
fresh_undecided fs (kinds.List listing.Any) = refl

fresh_level : (fs : FactSet) (kind : Kind) (gs : List Opening)
    → level fs (fresh kind) gs ≡ code_of (fresh kind) + (if is_settled fs gs then 4 else 0)
fresh_level fs kind gs =
    ap (λ b. code_of (fresh kind) + (if b then 4 else 0))
    (ap (λ b. is_settled fs gs || b) (fresh_undecided fs kind) ∙ or_false (is_settled fs gs))

small_level : (g : Opening) (settled : Bool) → code_of g + (if settled then 4 else 0) < 8
small_level g true = omega (arith, code_below g)
small_level g false = omega (arith, code_below g)

-- the bits of a group without members
pub opened_level : (fs : FactSet) (kind : Kind) (gs : List Opening) (n code : ℕ) (settled : Bool)
    → code ≡ code_of (fresh kind) → settled ≡ is_settled fs gs → n ≡ code + (if settled then 4 else 0)
    → (n ≡ level fs (fresh kind) gs) × (n < 8)
opened_level fs kind gs n code settled is same bits =
    let parts = bits ∙ λ i. is i + (if same i then 4 else 0) in (
      parts ∙ sym (fresh_level fs kind gs),
      omega (arith, parts, small_level (fresh kind) (is_settled fs gs)),
    )

-- a group in the same word
pub pushed : (fs : FactSet) (n m b : ℕ) (os : List ℕ) (g : Opening) (gs : List Opening)
    → Hold fs (record { inner = n; outer = os }) gs → b < 8 → b ≡ level fs g gs → m ≡ n * 8 + b
    → Hold fs (record { inner = m; outer = os }) (g ∷ gs)
pushed fs n m b os g gs h below bits is =
    let low : m % 8 ≡ b = omega arith in
    let high : m / 8 ≡ n = omega arith in
    (low ∙ bits, subst (λ w. Hold fs w gs) (sym (ap (λ z. around_by z os) high ∙ same_words fs n os gs h)) h)

-- ---- members

and_true_last : (fs : FactSet) (es : List Tree) (e : Tree)
    → all_true fs (trees_of (es ++ e ∷ [])) ≡ (all_true fs (trees_of es) && truth fs e)
and_true_last fs [] e = by_cases (truth fs e)
  where
    by_cases : (b : Bool) → (b && true) ≡ b
    by_cases true = refl
    by_cases false = refl
and_true_last fs (d ∷ es) e = by_cases (truth fs d) (and_true_last fs es e)
  where
    by_cases : (b : Bool) → all_true fs (trees_of (es ++ e ∷ [])) ≡ (all_true fs (trees_of es) && truth fs e)
        → (b && all_true fs (trees_of (es ++ e ∷ []))) ≡ ((b && all_true fs (trees_of es)) && truth fs e)
    by_cases true h = h
    by_cases false h = refl

or_true_last : (fs : FactSet) (es : List Tree) (e : Tree)
    → any_true fs (trees_of (es ++ e ∷ [])) ≡ (any_true fs (trees_of es) || truth fs e)
or_true_last fs [] e = or_false (truth fs e)
or_true_last fs (d ∷ es) e = by_cases (truth fs d) (or_true_last fs es e)
  where
    by_cases : (b : Bool) → any_true fs (trees_of (es ++ e ∷ [])) ≡ (any_true fs (trees_of es) || truth fs e)
        → (b || any_true fs (trees_of (es ++ e ∷ []))) ≡ ((b || any_true fs (trees_of es)) || truth fs e)
    by_cases true h = refl
    by_cases false h = h

-- whether a member of this truth decides a list
abbrev pub decides : Bool → Bool → Bool
decides true b = not b
decides false b = b

not_and : (a b : Bool) → not (a && b) ≡ (not a || not b)
not_and true b = refl
not_and false b = refl

decided_more : (fs : FactSet) (all : Bool) (es : List Tree) (e : Tree)
    → is_decided fs (Listed all (es ++ e ∷ [])) ≡ (is_decided fs (Listed all es) || decides all (truth fs e))
decided_more fs true es e = ap not (and_true_last fs es e) ∙ not_and (all_true fs (trees_of es)) (truth fs e)
decided_more fs false es e = or_true_last fs es e

-- whether the groups are settled with a member more, which has this answer
settled_more : (outer decided : Bool) (all answer is : Bool) → ((outer || decided) ≡ false → answer ≡ is)
    → (outer || (decided || decides all is)) ≡ ((outer || decided) || decides all answer)
settled_more true decided all answer is h = refl
settled_more false true all answer is h = refl
settled_more false false all answer is h = ap (decides all) (sym (h refl))

pub settled_with : (fs : FactSet) (all : Bool) (es : List Tree) (gs : List Opening) (e : Tree) (answer : Bool)
    → IsAnswer fs (Listed all es ∷ gs) answer e
    → is_settled fs (Listed all (es ++ e ∷ []) ∷ gs) ≡ (is_settled fs (Listed all es ∷ gs) || decides all answer)
settled_with fs all es gs e answer h =
    ap (λ b. is_settled fs gs || b) (decided_more fs all es e)
    ∙ settled_more (is_settled fs gs) (is_decided fs (Listed all es)) all answer (truth fs e) h

same_code : (all : Bool) (ds es : List Tree) → code_of (Listed all ds) ≡ code_of (Listed all es)
same_code true ds es = refl
same_code false ds es = refl

-- a member that changes nothing
pub member_kept : (fs : FactSet) (w : Words) (all : Bool) (es : List Tree) (gs : List Opening) (e : Tree)
    (answer : Bool)
    → Hold fs w (Listed all es ∷ gs) → IsAnswer fs (Listed all es ∷ gs) answer e
    → (is_settled fs (Listed all es ∷ gs) ≡ false → decides all answer ≡ false)
    → Hold fs w (Listed all (es ++ e ∷ []) ∷ gs)
member_kept fs w all es gs e answer h is kept =
    (h.0 ∙ λ i. same_code all es (es ++ e ∷ []) i + (if same i then 4 else 0), h.1)
  where
    by_cases : (s d : Bool) → (s ≡ false → d ≡ false) → s ≡ (s || d)
    by_cases true d k = refl
    by_cases false d k = sym (k refl)

    same : is_settled fs (Listed all es ∷ gs) ≡ is_settled fs (Listed all (es ++ e ∷ []) ∷ gs)
    same =
        by_cases (is_settled fs (Listed all es ∷ gs)) (decides all answer) kept
        ∙ sym (settled_with fs all es gs e answer is)

-- a member that decides the innermost group
pub member_decides : (fs : FactSet) (n m : ℕ) (os : List ℕ) (all : Bool) (es : List Tree) (gs : List Opening) (e : Tree)
    (answer : Bool) → Hold fs (record { inner = n; outer = os }) (Listed all es ∷ gs)
    → IsAnswer fs (Listed all es ∷ gs) answer e → is_settled fs (Listed all es ∷ gs) ≡ false
    → decides all answer ≡ true → m ≡ n + 4
    → Hold fs (record { inner = m; outer = os }) (Listed all (es ++ e ∷ []) ∷ gs)
member_decides fs n m os all es gs e answer h is matters decided more =
    let was : n % 8 ≡ code_of (Listed all es) + 0 = rw matters at h.0 in
    let low : m % 8 ≡ code_of (Listed all es) + 4 = omega (arith, code_below (Listed all es)) in
    let high : m / 8 ≡ n / 8 = omega (arith, code_below (Listed all es)) in
    let settled : is_settled fs (Listed all (es ++ e ∷ []) ∷ gs) ≡ true = settled_with fs all es gs e answer is
    ∙ ap (λ b. b || decides all answer) matters ∙ decided in (
      low ∙ λ i. same_code all es (es ++ e ∷ []) i + (if sym settled i then 4 else 0),
      subst (λ z. Hold fs (around_by z os) gs) (sym high) h.1,
    )

-- ---- the ends of groups

undecided : (outer decided : Bool) → outer ≡ false → (outer || decided) ≡ decided
undecided true decided h = absurd (true≢false h)
undecided false decided h = refl

not_not : (b : Bool) → not (not b) ≡ b
not_not true = refl
not_not false = refl

-- the answer for a list, by whether it is settled
pub list_answer : (fs : FactSet) (all : Bool) (es : List Tree) (gs : List Opening) (answer : Bool)
    → answer ≡ decides all (is_settled fs (Listed all es ∷ gs)) → IsAnswer fs gs answer (list_tree all es)
list_answer fs true es gs answer is matters =
    is ∙ ap not (undecided (is_settled fs gs) (is_decided fs (Listed true es)) matters) ∙ not_not
    (all_true fs (trees_of es))
list_answer fs false es gs answer is matters =
    is ∙ undecided (is_settled fs gs) (is_decided fs (Listed false es)) matters

pub not_answer : (fs : FactSet) (gs : List Opening) (answer : Bool) (e : Tree)
    → IsAnswer fs (Negated ∷ gs) answer e → IsAnswer fs gs (not answer) (Not e)
not_answer fs gs answer e is matters = ap not (is (or_false (is_settled fs gs) ∙ matters))

-- ---- what was read

-- what an expression has come to in groups that are known
pub record EndsAt (fs : FactSet) (old new : Ahead) (from : Position) (w : Words) (answer : Bool) (gs : List Opening)
    (e : Tree) : Type 0 where
  pub hold : Hold fs w gs
  pub reads : Reads Expressions old new from (WithTree e gs)
  pub is : IsAnswer fs gs answer e

pub ends_at : (fs : FactSet) (old new : Ahead) (from : Position) (w : Words) (answer : Bool)
    (ends : Ends fs old new from w answer) (gs : List Opening) → ends.gs ≡ gs
    → EndsAt fs old new from w answer gs ends.e
ends_at fs old new from w answer ends gs is =
    subst (λ z. EndsAt fs old new from w answer z ends.e) is
    (record { hold = ends.hold; reads = ends.reads; is = ends.is })

-- the groups, if the innermost one is a negation
pub in_not : (gs : List Opening) (inside : IsIn kinds.Not gs) → gs ≡ Negated ∷ inside.1
in_not gs inside = inside.2 ∙ ap (λ z. z ∷ inside.1) inside.3

-- and if it is a list
pub in_list : (word : Listing) (gs : List Opening) (inside : IsIn (kinds.List word) gs)
    → gs ≡ Listed (is_all word) inside.3.0 ∷ inside.1
in_list word gs inside = inside.2 ∙ ap (λ z. z ∷ inside.1) inside.3.1
