use Rattle.std.proofs.Common.{◌∙◌, ◌↔◌, refl, sym, ap, subst, map, IsTrue}
use Rattle.std.proofs.lemmas.Simd.{map-map}
use Rattle.cargo_platform.specs.Trees.{value_of}
use Rattle.manifests.specs.Declarations.{declarations_of}
use Rattle.predicate_classes.specs.Classes.{classified_with_declarations}
use Rattle.manifest_lints_findings.specs.Known.{classified_of_spelled, print_spelled, IsUnknownSpelled}
use Rattle.manifest_lints_findings.proofs.known_keys.known_condition.Goals as goal

pub returns-clause-known : goal.returns-clause-known
returns-clause-known c = λ is tables.
    let ds = declarations_of c.args.declared.now in
    record {
      read = refl;
      tables = tables;
      predicates =
          c.in_ok-key_predicates.ensures
          ∙ ap (map (λ v. classified_with_declarations ds (value_of v.now))) c.deref.ensures.value
          ∙ sym (map-map (classified_with_declarations ds) (λ v. value_of v.now) c.in_ok-met.met.values.items)
          ∙ ap (map (classified_with_declarations ds)) c.in_ok-met.ensures ∙ sym (ap (classified_of_spelled ds) is);
      canonical = c.in_ok-canonical.ensures ∙ sym (ap print_spelled is);
      unknown_target =
          subst (λ s. IsTrue c.is_unknown_target.result ↔ IsUnknownSpelled s) (sym is) c.is_unknown_target.ensures;
    }
