-- What places say while the table grows, and what is joined.
use Rattle.std.proofs.Common.{◌≡◌, ◌∙◌, refl, sym, ap, subst, ℕ, zero, suc, ◌+◌, ◌-◌, ◌<◌, ◌≤◌, arith}
use Rattle.std.proofs.Common.{Bool, true, false, List, [], ◌∷◌, ◌++◌, length, get_or, reverse}
use Rattle.std.proofs.Common.{Option, Some, None, IfSome, IsSome, not, set, lit<}
use Rattle.std.specs.Prelude.{◌==◌, if◌then◌else◌}
use Rattle.std.specs.Option.{option_copied}
use Rattle.std.specs.Borrow.{Bor}
use Rattle.std.specs.Slice.{IsItemAt}
use Rattle.std.specs.List.{All}
use Rattle.std.proofs.lemmas.Bool.{eq-eqb, ne_eqb, eqb-true, eqb-false, false≢true}
use Rattle.std.proofs.lemmas.List.Elements.{All-set}
use Rattle.std.proofs.lemmas.List.{get_or-reverse, reverse-reverse, reverse-append, length-reverse}
use Rattle.exact_answers.specs.declared.goal_diagrams.table.Node.{Node}
use Rattle.exact_answers.specs.declared.goal_diagrams.table.Choice.{Choice}
use Rattle.exact_answers.specs.declared.goal_diagrams.table.JoinEntry.{JoinEntry}
use Rattle.exact_answers.specs.declared.goal_diagrams.table.Cofactors.{Cofactors}
use Rattle.exact_answers.specs.declared.goal_diagrams.table.Table.{Table}
use Rattle.exact_answers.specs.Diagrams.{joint, pick, value, nodes_of, places, AreEarlier, IsJoin, IsTable}
use Rattle.exact_answers.specs.Diagrams.{Grows, IsMade, IsNodeAt, IsNode, AreHalves, IsJoinOf, Agrees}

-- ---- one node more

if-false : (b x y : Bool) → b ≡ false → (if b then x else y) ≡ y
if-false b x y is = ap (λ t. if t then x else y) is

if-true : (b x y : Bool) → b ≡ true → (if b then x else y) ≡ x
if-true b x y is = ap (λ t. if t then x else y) is

pub value-older : (holds : ℕ → Bool) (n : Node) (ns : List Node) (place : ℕ) → place < places ns
    → value holds (n ∷ ns) place ≡ value holds ns place
value-older holds n ns place h =
    if-false (place == (length ns + 2)) (pick (holds n.number) (value holds ns n.with) (value holds ns n.without))
    (value holds ns place) (ne_eqb place (length ns + 2) (λ e. let no : ⊥ = omega (arith, h, e) in no))

pub value-newest : (holds : ℕ → Bool) (n : Node) (ns : List Node) (place : ℕ) → place ≡ places ns
    → value holds (n ∷ ns) place ≡ pick (holds n.number) (value holds ns n.with) (value holds ns n.without)
value-newest holds n ns place e =
    if-true (place == (length ns + 2)) (pick (holds n.number) (value holds ns n.with) (value holds ns n.without))
    (value holds ns place) (eq-eqb place (length ns + 2) e)

pub value-false : (holds : ℕ → Bool) (ns : List Node) → value holds ns 0 ≡ false
value-false holds [] = refl
value-false holds (n ∷ ns) = value-older holds n ns 0 (omega arith) ∙ value-false holds ns

pub value-true : (holds : ℕ → Bool) (ns : List Node) → value holds ns 1 ≡ true
value-true holds [] = refl
value-true holds (n ∷ ns) = value-older holds n ns 1 (omega arith) ∙ value-true holds ns

pub grows-one : (n : Node) (ns : List Node) → Grows ns (n ∷ ns)
grows-one n ns = record { more = omega arith; same = λ holds place h. value-older holds n ns place h }

pub grows-none : (ns : List Node) → Grows ns ns
grows-none ns = record { more = omega arith; same = λ holds place h. refl }

pub grows-twice : (a b c : List Node) → Grows a b → Grows b c → Grows a c
grows-twice a b c f g = record {
  more = omega (arith, f.more, g.more);
  same = λ holds place h.
      g.same holds place (omega (arith, f.more, h)) ∙ f.same holds place h;
}

-- ---- what was joined stays so

pub join-kept : (a b : List Node) (j : JoinEntry) → Grows a b → IsJoin a j → IsJoin b j
join-kept a b j g is = record {
  one_in = omega (arith, g.more, is.one_in);
  other_in = omega (arith, g.more, is.other_in);
  place_in = omega (arith, g.more, is.place_in);
  joins = λ holds.
      g.same holds j.place is.place_in ∙ is.joins holds
      ∙ ap (λ x. joint j.each x (value holds a j.other)) (sym (g.same holds j.one is.one_in))
      ∙ ap (λ x. joint j.each (value holds b j.one) x) (sym (g.same holds j.other is.other_in));
}

pub joins-kept : (a b : List Node) (js : List JoinEntry) → Grows a b → All (IsJoin a) js → All (IsJoin b) js
joins-kept a b js g all = λ k d h. join-kept a b _ g (all k d h)

-- ---- the node at a place

node-kept : (m : Node) (ns : List Node) (place : ℕ) (n : Node) → IsNodeAt ns place n → IsNodeAt (m ∷ ns) place n
node-kept m ns place n is = record {
  inside = omega (arith, is.inside);
  without = is.without;
  with = is.with;
  differ = is.differ;
  means = λ holds.
      value-older holds m ns place is.inside ∙ is.means holds
      ∙ ap (λ x. pick (holds n.number) x (value holds ns n.without))
      (sym (value-older holds m ns n.with (omega (arith, is.with, is.inside))))
      ∙ ap (λ x. pick (holds n.number) (value holds (m ∷ ns) n.with) x)
      (sym (value-older holds m ns n.without (omega (arith, is.without, is.inside))));
}

node-newest : (n : Node) (ns : List Node) (place : ℕ) → AreEarlier (n ∷ ns) → place ≡ places ns
    → IsNodeAt (n ∷ ns) place n
node-newest n ns place early e = record {
  inside = omega arith;
  without = omega (arith, early.0);
  with = omega (arith, early.1);
  differ = early.2;
  means = λ holds.
      value-newest holds n ns place e
      ∙ ap (λ x. pick (holds n.number) x (value holds ns n.without)) (sym (value-older holds n ns n.with early.1))
      ∙ ap (λ x. pick (holds n.number) (value holds (n ∷ ns) n.with) x)
      (sym (value-older holds n ns n.without early.0));
}

node-by-index : (ns : List Node) (k place : ℕ) (d : Node) → AreEarlier ns → k < length ns
    → place + k ≡ length ns + 1 → IsNodeAt ns place (get_or ns k d)
node-by-index [] k place d early h e = absurd (let no : ⊥ = omega (arith, h) in no)
node-by-index (n ∷ ns) zero place d early h e = node-newest n ns place early (omega (arith, e))
node-by-index (n ∷ ns) (suc k) place d early h e =
    node-kept n ns place (get_or ns k d)
    (node-by-index ns k place d early.3 (omega (arith, h)) (omega (arith, e)))

pub node-at : (items : List Node) (i : ℕ) (n : Node) → AreEarlier (reverse items) → i < length items
    → n ≡ get_or items i n → IsNodeAt (reverse items) (i + 2) n
node-at items i n early h is =
    let long : length (reverse items) ≡ length items = length-reverse items in
    let k = length (reverse items) - 1 - i in
    let there : get_or (reverse (reverse items)) i n ≡ get_or (reverse items) k n =
    get_or-reverse (reverse items) i n (omega (arith, long, h)) in
    let all : get_or (reverse items) k n ≡ n =
    sym there ∙ ap (λ xs. get_or xs i n) (reverse-reverse items) ∙ sym is in
    subst (IsNodeAt (reverse items) (i + 2)) all
    (node-by-index (reverse items) k (i + 2) n early (omega (arith, long, h)) (omega (arith, long, h)))

pub node-looked-up : (items xs : List Node) (i place : ℕ) (r : Option (Bor Node)) (q : Option Node)
    → AreEarlier (reverse items) → xs ≡ items → place ≡ i + 2 → IsItemAt xs i r → q ≡ option_copied r
    → IfSome q (IsNodeAt (reverse items) place)
node-looked-up items xs i place None q early e p is same =
    subst (λ o. IfSome o (IsNodeAt (reverse items) place)) (sym same) tt
node-looked-up items xs i place (Some b) q early e p is same =
    subst (λ o. IfSome o (IsNodeAt (reverse items) place)) (sym same)
    (subst (λ at. IsNodeAt (reverse items) at b.now) (sym p)
    (node-at items i b.now early (subst (λ l. i < length l) e is.3.0) (is.1 ∙ ap (λ l. get_or l i b.now) e)))

pub node-found : (ns : List Node) (place : ℕ) (n : Node) (number without with : ℕ) → IsNodeAt ns place n
    → (n.number ≡ number) × (n.without ≡ without) × (n.with ≡ with) → IsNode ns number without with place
node-found ns place n number without with is same = record {
  inside = is.inside;
  means = λ holds.
      is.means holds ∙ ap (λ x. pick (holds x) (value holds ns n.with) (value holds ns n.without)) same.0
      ∙ ap (λ x. pick (holds number) (value holds ns x) (value holds ns n.without)) same.2
      ∙ ap (λ x. pick (holds number) (value holds ns with) (value holds ns x)) same.1;
}

-- ---- a node that is added

pushed-nodes : (old new : List Node) (n : Node) → new ≡ old ++ n ∷ [] → reverse new ≡ n ∷ reverse old
pushed-nodes old new n e = ap reverse e ∙ reverse-append old (n ∷ [])

pub none-made : (t : Table) (place : ℕ) → IsTable (nodes_of t) t.joined.items → place < places (nodes_of t)
    → IsMade t t place
none-made t place is h = record { table = is; grows = grows-none (nodes_of t); inside = h }

pub made-along : (a b c : Table) (place : ℕ) → nodes_of c ≡ nodes_of b → IsTable (nodes_of c) c.joined.items
    → IsMade a b place → IsMade a c place
made-along a b c place same is made = record {
  table = is;
  grows = subst (Grows (nodes_of a)) (sym same) made.grows;
  inside = subst (λ ns. place < places ns) (sym same) made.inside;
}

pub made-twice : (a b c : Table) (one other : ℕ) → IsMade a b one → IsMade b c other → IsMade a c other
made-twice a b c one other f g = record {
  table = g.table;
  grows = grows-twice (nodes_of a) (nodes_of b) (nodes_of c) f.grows g.grows;
  inside = g.inside;
}

pub pushed-made : (old new : Table) (n : Node) (place : ℕ) → new.nodes.items ≡ old.nodes.items ++ n ∷ []
    → new.joined.items ≡ old.joined.items → place ≡ places (nodes_of old) → IsTable (nodes_of old) old.joined.items
    → n.without < places (nodes_of old) → n.with < places (nodes_of old) → (n.without ≡ n.with → ⊥)
    → IsMade old new place
pushed-made old new n place e joins at is without with differ =
    let all : nodes_of new ≡ n ∷ nodes_of old = pushed-nodes old.nodes.items new.nodes.items n e in
    record {
      table =
          subst (λ ns. IsTable ns new.joined.items) (sym all)
          (subst (λ js. IsTable (n ∷ nodes_of old) js) (sym joins)
          (record {
            earlier = (without, with, differ, is.earlier);
            joins = joins-kept (nodes_of old) (n ∷ nodes_of old) old.joined.items (grows-one n (nodes_of old))
                is.joins;
          }));
      grows = subst (Grows (nodes_of old)) (sym all) (grows-one n (nodes_of old));
      inside = subst (λ ns. place < places ns) (sym all) (omega (arith, at));
    }

pub pushed-means : (old new : Table) (n : Node) (place : ℕ) → new.nodes.items ≡ old.nodes.items ++ n ∷ []
    → place ≡ places (nodes_of old) → (holds : ℕ → Bool)
    → value holds (nodes_of new) place
    ≡ pick (holds n.number) (value holds (nodes_of old) n.with) (value holds (nodes_of old) n.without)
pushed-means old new n place e at holds =
    ap (λ ns. value holds ns place) (pushed-nodes old.nodes.items new.nodes.items n e)
    ∙ value-newest holds n (nodes_of old) place at

-- ---- joining

pub joined-picks : (each t a b c d : Bool)
    → joint each (pick t a b) (pick t c d) ≡ pick t (joint each a c) (joint each b d)
joined-picks each true a b c d = refl
joined-picks each false a b c d = refl

pub pick-same : (t a : Bool) → pick t a a ≡ a
pick-same true a = refl
pick-same false a = refl

pub joined-same : (each a : Bool) → joint each a a ≡ a
joined-same true true = refl
joined-same true false = refl
joined-same false true = refl
joined-same false false = refl

pub joined-neutral : (each a : Bool) → joint each a each ≡ a
joined-neutral true true = refl
joined-neutral true false = refl
joined-neutral false true = refl
joined-neutral false false = refl

pub neutral-joined : (each a : Bool) → joint each each a ≡ a
neutral-joined true a = refl
neutral-joined false a = refl

pub value-literal : (holds : ℕ → Bool) (ns : List Node) (b : Bool) → value holds ns (if b then 1 else 0) ≡ b
value-literal holds ns true = value-true holds ns
value-literal holds ns false = value-false holds ns

pub literal-inside : (ns : List Node) (b : Bool) → (if b then 1 else 0) < places ns
literal-inside ns true = omega arith
literal-inside ns false = omega arith

pub same-node : (t : Bool) (holds : ℕ → Bool) (ns : List Node) (without with : ℕ) → without ≡ with
    → value holds ns with ≡ pick t (value holds ns with) (value holds ns without)
same-node t holds ns without with e =
    sym (ap (λ x. pick t (value holds ns with) (value holds ns x)) e ∙ pick-same t (value holds ns with))

-- places that are joined at once

pub join-same : (ns : List Node) (each : Bool) (one other : ℕ) → one ≡ other → IsJoinOf ns each one other one
join-same ns each one other e = record {
  inside = λ h k. h;
  means = λ holds.
      sym (ap (λ x. joint each (value holds ns one) (value holds ns x)) (sym e)
      ∙ joined-same each (value holds ns one));
}

pub join-neutral : (ns : List Node) (each : Bool) (one other : ℕ) → other ≡ (if each then 1 else 0)
    → IsJoinOf ns each one other one
join-neutral ns each one other e = record {
  inside = λ h k. h;
  means = λ holds.
      sym (ap (λ x. joint each (value holds ns one) x) (ap (value holds ns) e ∙ value-literal holds ns each)
      ∙ joined-neutral each (value holds ns one));
}

pub neutral-join : (ns : List Node) (each : Bool) (one other : ℕ) → one ≡ (if each then 1 else 0)
    → IsJoinOf ns each one other other
neutral-join ns each one other e = record {
  inside = λ h k. k;
  means = λ holds.
      sym (ap (λ x. joint each x (value holds ns other)) (ap (value holds ns) e ∙ value-literal holds ns each)
      ∙ neutral-joined each (value holds ns other));
}

opposite : (each : Bool) (one : ℕ) → one < 2 → (one ≡ (if each then 1 else 0) → ⊥)
    → one ≡ (if not each then 1 else 0)
opposite true one h differs = omega (arith, h, differs)
opposite false one h differs = omega (arith, h, differs)

settled-joined : (each a : Bool) → joint each (not each) a ≡ not each
settled-joined true a = refl
settled-joined false a = refl

joined-settled : (each a : Bool) → joint each a (not each) ≡ not each
joined-settled true true = refl
joined-settled true false = refl
joined-settled false true = refl
joined-settled false false = refl

pub settled-join : (ns : List Node) (each : Bool) (one other place : ℕ) → one < 2
    → (one ≡ (if each then 1 else 0) → ⊥) → place ≡ (if not each then 1 else 0) → IsJoinOf ns each one other place
settled-join ns each one other place h differs e = record {
  inside = λ a b. subst (λ x. x < places ns) (sym e) (literal-inside ns (not each));
  means = λ holds.
      ap (value holds ns) e ∙ value-literal holds ns (not each)
      ∙ sym (ap (λ x. joint each x (value holds ns other))
      (ap (value holds ns) (opposite each one h differs) ∙ value-literal holds ns (not each))
      ∙ settled-joined each (value holds ns other));
}

pub join-settled : (ns : List Node) (each : Bool) (one other place : ℕ) → other < 2
    → (other ≡ (if each then 1 else 0) → ⊥) → place ≡ (if not each then 1 else 0) → IsJoinOf ns each one other place
join-settled ns each one other place h differs e = record {
  inside = λ a b. subst (λ x. x < places ns) (sym e) (literal-inside ns (not each));
  means = λ holds.
      ap (value holds ns) e ∙ value-literal holds ns (not each)
      ∙ sym (ap (λ x. joint each (value holds ns one) x)
      (ap (value holds ns) (opposite each other h differs) ∙ value-literal holds ns (not each))
      ∙ joined-settled each (value holds ns one));
}

-- places that were joined before

pub recalled-join : (ns : List Node) (items : List JoinEntry) (i : ℕ) (j : JoinEntry) (each : Bool) (one other : ℕ)
    → All (IsJoin ns) items → i < length items → j ≡ get_or items i j
    → (j.each ≡ each) × (j.one ≡ one) × (j.other ≡ other) → IsJoinOf ns each one other j.place
recalled-join ns items i j each one other all h is same =
    let join : IsJoin ns j = subst (IsJoin ns) (sym is) (all i j h) in
    record {
      inside = λ a b. join.place_in;
      means = λ holds.
          join.joins holds ∙ ap (λ x. joint x (value holds ns j.one) (value holds ns j.other)) same.0
          ∙ ap (λ x. joint each (value holds ns x) (value holds ns j.other)) same.1
          ∙ ap (λ x. joint each (value holds ns one) (value holds ns x)) same.2;
    }

pub remembered : (ns : List Node) (items : List JoinEntry) (i : ℕ) (j : JoinEntry) → IsTable ns items
    → IsJoin ns j
    → IsTable ns (set items i j)
remembered ns items i j is join =
    record { earlier = is.earlier; joins = All-set (IsJoin ns) items i j join is.joins }

pub first-join : IsJoin [] (record { each = true; one = 0; other = 0; place = 0 })
first-join = record { one_in = lit< tt; other_in = lit< tt; place_in = lit< tt; joins = λ holds. refl }

pub no-nodes : (ns : List Node) (js : List JoinEntry) → ns ≡ [] → All (IsJoin []) js → IsTable ns js
no-nodes ns js e all = subst (λ ns. IsTable ns js) (sym e) (record { earlier = tt; joins = all })

-- ---- joining by halves

pub halves-first : (ns : List Node) (one other : ℕ) (n m : Node) → IsNodeAt ns one n → IsNodeAt ns other m
    → AreHalves ns one other (record {
      number = n.number;
      one_without = n.without;
      other_without = other;
      one_with = n.with;
      other_with = other;
    })
halves-first ns one other n m a b = record {
  one_means = a.means;
  other_means = λ holds. sym (pick-same (holds n.number) (value holds ns other));
  one_with = omega (arith, a.inside, a.with);
  one_without = omega (arith, a.inside, a.without);
  other_with = b.inside;
  other_without = b.inside;
  less_with = omega (arith, a.with);
  less_without = omega (arith, a.without);
}

pub halves-second : (ns : List Node) (one other : ℕ) (n m : Node) → IsNodeAt ns one n → IsNodeAt ns other m
    → AreHalves ns one other (record {
      number = m.number;
      one_without = one;
      other_without = m.without;
      one_with = one;
      other_with = m.with;
    })
halves-second ns one other n m a b = record {
  one_means = λ holds. sym (pick-same (holds m.number) (value holds ns one));
  other_means = b.means;
  one_with = a.inside;
  one_without = a.inside;
  other_with = omega (arith, b.inside, b.with);
  other_without = omega (arith, b.inside, b.without);
  less_with = omega (arith, b.with);
  less_without = omega (arith, b.without);
}

pub halves-both : (ns : List Node) (one other : ℕ) (n m : Node) → IsNodeAt ns one n → IsNodeAt ns other m
    → n.number ≡ m.number → AreHalves ns one other (record {
      number = n.number;
      one_without = n.without;
      other_without = m.without;
      one_with = n.with;
      other_with = m.with;
    })
halves-both ns one other n m a b e = record {
  one_means = a.means;
  other_means = λ holds.
      b.means holds ∙ ap (λ x. pick (holds x) (value holds ns m.with) (value holds ns m.without)) (sym e);
  one_with = omega (arith, a.inside, a.with);
  one_without = omega (arith, a.inside, a.without);
  other_with = omega (arith, b.inside, b.with);
  other_without = omega (arith, b.inside, b.without);
  less_with = omega (arith, a.with, b.with);
  less_without = omega (arith, a.without, b.without);
}

module _ (a b c d : List Node) (each : Bool) (one other : ℕ) (h : Cofactors) (without with place : ℕ)
    (halves : AreHalves a one other h) (ab : Grows a b) (bc : Grows b c) (inside : without < places b)
    (is_without : (holds : ℕ → Bool)
    → value holds b without ≡ joint each (value holds a h.one_without) (value holds a h.other_without))
    (is_with : (holds : ℕ → Bool)
    → value holds c with ≡ joint each (value holds b h.one_with) (value holds b h.other_with))
    (is_place : (holds : ℕ → Bool)
    → value holds d place ≡ pick (holds h.number) (value holds c with) (value holds c without)) where
  pub halves-joined : (holds : ℕ → Bool)
      → value holds d place ≡ joint each (value holds a one) (value holds a other)
  halves-joined holds =
      let t = holds h.number in
      let v : ℕ → Bool = λ p. value holds a p in
      is_place holds
      ∙ ap (λ x. pick t x (value holds c without))
      (is_with holds ∙ ap (λ x. joint each x (value holds b h.other_with)) (ab.same holds h.one_with halves.one_with)
      ∙ ap (λ x. joint each (v h.one_with) x) (ab.same holds h.other_with halves.other_with))
      ∙ ap (λ x. pick t (joint each (v h.one_with) (v h.other_with)) x)
      (bc.same holds without inside ∙ is_without holds)
      ∙ sym (ap (λ x. joint each x (v other)) (halves.one_means holds)
      ∙ ap (λ x. joint each (pick t (v h.one_with) (v h.one_without)) x) (halves.other_means holds)
      ∙ joined-picks each t (v h.one_with) (v h.one_without) (v h.other_with) (v h.other_without))

-- what was joined, as it is remembered
pub new-join : (a d : List Node) (each : Bool) (one other place : ℕ) → Grows a d → one < places a → other < places a
    → place < places d
    → ((holds : ℕ → Bool) → value holds d place ≡ joint each (value holds a one) (value holds a other))
    → IsJoin d (record { each = each; one = one; other = other; place = place })
new-join a d each one other place g h k l is = record {
  one_in = omega (arith, g.more, h);
  other_in = omega (arith, g.more, k);
  place_in = l;
  joins = λ holds.
      is holds ∙ ap (λ x. joint each x (value holds a other)) (sym (g.same holds one h))
      ∙ ap (λ x. joint each (value holds d one) x) (sym (g.same holds other k));
}

-- ---- a way

copied-some : (r : Option (Bor Node)) (q : Option Node) → IsSome r → q ≡ option_copied r → IsSome q
copied-some None q h same = absurd (false≢true h)
copied-some (Some b) q h same = subst (λ o. IsSome o) (sym same) refl

pub node-missing : (items xs : List Node) (i place : ℕ) (r : Option (Bor Node)) (q : Option Node) → xs ≡ items
    → place ≡ i + 2 → IsItemAt xs i r → q ≡ option_copied r → place < places (reverse items) → IsSome q
node-missing items xs i place r q e p is same inside =
    let long : length (reverse items) ≡ length items = length-reverse items in
    let there : IsSome r = is.2 (subst (λ l. i < length l) (sym e) (omega (arith, p, inside, long))) in
    copied-some r q there same

pub picked : (holds wanted : Bool) → pick holds wanted (not wanted) ≡ (if wanted then holds else not holds)
picked true true = refl
picked true false = refl
picked false true = refl
picked false false = refl

pub pair-step : (holds : ℕ → Bool) (ns : List Node) (number without with : ℕ) (wanted x : Bool)
    → without ≡ (if not wanted then 1 else 0) → with ≡ (if wanted then 1 else 0)
    → x ≡ pick (holds number) (value holds ns with) (value holds ns without)
    → x ≡ (if wanted then holds number else not (holds number))
pair-step holds ns number without with wanted x e f is =
    is
    ∙ ap (λ y. pick (holds number) y (value holds ns without))
    (ap (value holds ns) f ∙ value-literal holds ns wanted)
    ∙ ap (λ y. pick (holds number) wanted y) (ap (value holds ns) e ∙ value-literal holds ns (not wanted))
    ∙ picked (holds number) wanted

pub agrees-more : (holds : ℕ → Bool) (cs : List Choice) (c : Choice) → Agrees holds (cs ++ c ∷ [])
    → Agrees holds cs × (holds c.number ≡ c.holds)
agrees-more holds [] c h = (tt, h.0)
agrees-more holds (d ∷ cs) c h = let more = agrees-more holds cs c h.1 in ((h.0, more.0), more.1)

picked-place : (v : ℕ → Bool) (b : Bool) (with without : ℕ)
    → pick b (v with) (v without) ≡ v (if b then with else without)
picked-place v true with without = refl
picked-place v false with without = refl

pub way-step : (holds : ℕ → Bool) (ns : List Node) (n : Node) (at next : ℕ) (b : Bool) → IsNodeAt ns at n
    → holds n.number ≡ b → next ≡ (if b then n.with else n.without) → value holds ns at ≡ value holds ns next
way-step holds ns n at next b node is e =
    node.means holds ∙ ap (λ x. pick x (value holds ns n.with) (value holds ns n.without)) is
    ∙ picked-place (value holds ns) b n.with n.without ∙ ap (value holds ns) (sym e)

pub next-less : (ns : List Node) (n : Node) (at next : ℕ) (b : Bool) → IsNodeAt ns at n
    → next ≡ (if b then n.with else n.without) → next < at
next-less ns n at next true node e = omega (arith, node.with, e)
next-less ns n at next false node e = omega (arith, node.without, e)

-- the choice is to hold exactly where the way without the pair is false
pub next-not-false : (ns : List Node) (n : Node) (at next : ℕ) (b : Bool) → IsNodeAt ns at n
    → b ≡ (n.without == 0) → next ≡ (if b then n.with else n.without) → next ≡ 0 → ⊥
next-not-false ns n at next true node is e none =
    node.differ (eqb-true n.without 0 (sym is) ∙ sym (sym e ∙ none))
next-not-false ns n at next false node is e none = eqb-false n.without 0 (sym is) (sym e ∙ none)

pub way-end : (holds : ℕ → Bool) (ns : List Node) (at : ℕ) → (at ≡ 0 → ⊥) → (2 ≤ at → ⊥)
    → value holds ns at ≡ true
way-end holds ns at differs less = ap (value holds ns) (omega (arith, differs, less)) ∙ value-true holds ns
