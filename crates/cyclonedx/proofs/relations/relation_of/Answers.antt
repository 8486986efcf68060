use Rattle.std.proofs.Common.{◌↔◌, ◌∙◌, ap, map, subst, refl, ℕ, List}
use Rattle.std.specs.Prelude.{Contains}
use Rattle.cyclonedx.specs.Relations.{needed_by, reference_at}
use Rattle.cyclonedx.proofs.relations.relation_of.Goals as goal

pub returns : goal.returns
returns c =
    let nodes = c.args.nodes.now in
    let places = c.sorted-places.result.items in
    let is = c.in_ok-needed_by.ensures ∙ ap (needed_by nodes) c.deref.ensures.value in
    record {
      of = refl;
      places = places;
      ordered = c.sorted-places.ensures.ordered;
      needed = λ k.
          subst (λ (needs : List ℕ). Contains places k ↔ Contains needs k) is (c.sorted-places.ensures.same k);
      names = c.in_ok-depends_on.ensures ∙ ap (map (reference_at nodes)) c.deref-2.ensures.value;
    }
