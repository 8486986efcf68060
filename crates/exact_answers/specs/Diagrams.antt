-- Diagrams: nodes in a table, what they say, and how the table grows.
use Rattle.std.specs.Prelude.{◌≡◌, ℕ, ◌+◌, ◌<◌, ◌≤◌, ◌==◌, Bool, true, false, ◌&&◌, ◌||◌, if◌then◌else◌}
use Rattle.std.specs.Prelude.{List, [], ◌∷◌, reverse, length}
use Rattle.std.specs.List.{All}
use Rattle.exact_answers.specs.declared.goal_diagrams.table.Node.{Node}
use Rattle.exact_answers.specs.declared.goal_diagrams.table.JoinEntry.{JoinEntry}
use Rattle.exact_answers.specs.declared.goal_diagrams.table.Cofactors.{Cofactors}
use Rattle.exact_answers.specs.declared.goal_diagrams.table.Table.{Table}
use Rattle.exact_answers.specs.declared.goal_diagrams.table.Choice.{Choice}

-- both, or either
abbrev pub joint : Bool → Bool → Bool → Bool
joint true a b = a && b
joint false a b = a || b

-- by whether a pair is a fact
abbrev pub pick : Bool → Bool → Bool → Bool
pick true with without = with
pick false with without = without

-- what a place says, by which pairs hold; the last node comes first
abbrev pub value : (ℕ → Bool) → List Node → ℕ → Bool
value holds [] place = place == 1
value holds (n ∷ ns) place =
    if place == (length ns + 2) then pick (holds n.number) (value holds ns n.with) (value holds ns n.without)
    else value holds ns place

abbrev pub nodes_of : Table → List Node
nodes_of t = reverse t.nodes.items

-- how many places there are
abbrev pub places : List Node → ℕ
places ns = length ns + 2

-- each node goes on at two places, both before its own
abbrev pub AreEarlier : List Node → Type 0
AreEarlier [] = Unit {0}
AreEarlier (n ∷ ns) =
    (n.without < places ns) × (n.with < places ns) × (n.without ≡ n.with → ⊥) × AreEarlier ns

-- the place of what two places are joined to
pub record IsJoinOf (ns : List Node) (each : Bool) (one other place : ℕ) : Type 0 where
  pub inside : one < places ns → other < places ns → place < places ns
  pub means : (holds : ℕ → Bool)
      → value holds ns place ≡ joint each (value holds ns one) (value holds ns other)

-- what two places were joined to
pub record IsJoin (ns : List Node) (j : JoinEntry) : Type 0 where
  pub one_in : j.one < places ns
  pub other_in : j.other < places ns
  pub place_in : j.place < places ns
  pub joins : (holds : ℕ → Bool)
      → value holds ns j.place ≡ joint j.each (value holds ns j.one) (value holds ns j.other)

pub record IsTable (ns : List Node) (js : List JoinEntry) : Type 0 where
  pub earlier : AreEarlier ns
  pub joins : All (IsJoin ns) js

-- what places say stays so
pub record Grows (old new : List Node) : Type 0 where
  pub more : places old ≤ places new
  pub same : (holds : ℕ → Bool) (place : ℕ) → place < places old → value holds new place ≡ value holds old place

-- a place of a table that grew
pub record IsMade (old new : Table) (place : ℕ) : Type 0 where
  pub table : IsTable (nodes_of new) new.joined.items
  pub grows : Grows (nodes_of old) (nodes_of new)
  pub inside : place < places (nodes_of new)

-- the node at a place
pub record IsNodeAt (ns : List Node) (place : ℕ) (n : Node) : Type 0 where
  pub inside : place < places ns
  pub without : n.without < place
  pub with : n.with < place
  pub differ : n.without ≡ n.with → ⊥
  pub means : (holds : ℕ → Bool)
      → value holds ns place ≡ pick (holds n.number) (value holds ns n.with) (value holds ns n.without)

-- the place of a node that asks for the pair with this number
pub record IsNode (ns : List Node) (number without with place : ℕ) : Type 0 where
  pub inside : place < places ns
  pub means : (holds : ℕ → Bool)
      → value holds ns place ≡ pick (holds number) (value holds ns with) (value holds ns without)

-- two places by a pair, at places before them
pub record AreHalves (ns : List Node) (one other : ℕ) (h : Cofactors) : Type 0 where
  pub one_means : (holds : ℕ → Bool)
      → value holds ns one ≡ pick (holds h.number) (value holds ns h.one_with) (value holds ns h.one_without)
  pub other_means : (holds : ℕ → Bool)
      → value holds ns other ≡ pick (holds h.number) (value holds ns h.other_with) (value holds ns h.other_without)
  pub one_with : h.one_with < places ns
  pub one_without : h.one_without < places ns
  pub other_with : h.other_with < places ns
  pub other_without : h.other_without < places ns
  pub less_with : h.one_with + h.other_with < one + other
  pub less_without : h.one_without + h.other_without < one + other

-- which pairs hold agrees with each choice
abbrev pub Agrees : (ℕ → Bool) → List Choice → Type 0
Agrees holds [] = Unit {0}
Agrees holds (c ∷ cs) = (holds c.number ≡ c.holds) × Agrees holds cs
