-- Both kinds of group, by their neutral truth, after which they go on: `all` goes on after members that are true, and
-- `any` after false ones.
use Rattle.std.specs.Prelude.{Bool, true, false, Option, Some, None}
use Rattle.cargo_platform.specs.Trees.{Tree, All, Any, Trees}
use Rattle.cargo_platform.specs.Facts.{Pair}
use Rattle.partial_facts.specs.Kleene.{kleene_and, kleene_or, kleene_all, kleene_any}

abbrev pub both : Bool → Option Bool → Option Bool → Option Bool
both true = kleene_and
both false = kleene_or

abbrev pub members_known : Bool → (Pair → Option Bool) → Trees → Option Bool
members_known true = kleene_all
members_known false = kleene_any

abbrev pub grouped : Bool → Trees → Tree
grouped true = All
grouped false = Any

-- what is known of the members so far: the neutral truth if each of them is known, or else nothing
abbrev pub so_far : Bool → Bool → Option Bool
so_far neutral true = Some neutral
so_far neutral false = None
