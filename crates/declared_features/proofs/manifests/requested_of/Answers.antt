use Rattle.std.proofs.Common.{rules, ◌≡◌, sym, false, [], ◌∷◌, ◌++◌, codes}
use Rattle.serde_json.specs.Find.{as_str}
use Rattle.cargo_metadata.specs.declared.refusals.ExpectedValue.TheVariants as expected
use Rattle.serde_json.specs.View.{view}
use Rattle.cargo_metadata.proofs.Elements.{rows_none, rows_more}
use Rattle.declared_features.specs.Documents.{IsText}
use Rattle.std.specs.Option.{is_some}
use Rattle.std.proofs.lemmas.List.Elements.{All-nil, All-cons, All-append}
use Rattle.cargo_metadata.specs.Fields.{Fits}
use Rattle.cargo_metadata.proofs.Elements.{first_at, list_fits, wrong_first}
use Rattle.declared_features.specs.Refusals.{fields_of_subject, fields_of_flags}
use Rattle.declared_features.proofs.Rejecting.{after_fit}
use Rattle.declared_features.proofs.manifests.requested_of.Goals as goal

pub features-init : goal.features-init
features-init c = rows_none IsText c.new-features.result.items c.new-features.ensures.items

pub features-preserved : goal.features-preserved
features-preserved c =
    rows_more IsText c.in-Ok.items.now c.features.i c.index-items-i.result c.features.features.items
    c.push.new.self.items
    c.in-Some.text c.features-test.true c.index-items-i.is c.in_default-push.ensures.items
    c.features.invariant (sym c.in-Some.ensures)

pub returns-in-Err-clause-fault : goal.returns-in-Err-clause-fault
returns-in-Err-clause-fault c = λ fit.
    let d = view c.args.value.now in
    let wrong = c.in-Err.ensures in
    after_fit (fields_of_subject ++ fields_of_flags) ((codes "features", expected.List) ∷ []) d c.in-Err.wrong fit
    (wrong_first (codes "features") expected.List [] d c.in-Err.wrong wrong.0 wrong.1)

pub returns-in_default-clause-fault : goal.returns-in_default-clause-fault
returns-in_default-clause-fault c = λ fit.
    let d = view c.args.value.now in
    let none : is_some (as_str (view c.index-items-i.result)) ≡ false = search rules in (
      All-append (Fits d) (fields_of_subject ++ fields_of_flags) ((codes "features", expected.List) ∷ []) fit
          (All-cons (Fits d) (codes "features", expected.List) [] (list_fits (codes "features") d _ c.in-Ok.ensures)
          (All-nil (Fits d))),
      first_at IsText _ _ d c.in-Ok.items.now c.features.i c.index-items-i.result c.features.features.items
          c.in-Ok.ensures c.features-test.true c.index-items-i.is c.features.invariant
          none,
    )
