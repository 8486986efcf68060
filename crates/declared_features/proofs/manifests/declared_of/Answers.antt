use Rattle.std.proofs.Common.{◌++◌, ◌∷◌, [], codes}
use Rattle.serde_json.specs.View.{view}
use Rattle.cargo_metadata.specs.declared.refusals.ExpectedValue.TheVariants as expected
use Rattle.declared_features.specs.Refusals.{fields_of_subject, fields_of_flags}
use Rattle.declared_features.proofs.Rejecting.{after_fit, before_more, subject_fits}
use Rattle.declared_features.proofs.manifests.declared_of.Goals as goal

pub returns-in-Err : goal.returns-in-Err
returns-in-Err c =
    before_more fields_of_subject (fields_of_flags ++ (codes "features", expected.List) ∷ []) (view c.args.value.now)
    c.in-Err.wrong c.in-Err.ensures.fault

pub returns-in-Err-flags_of : goal.returns-in-Err-flags_of
returns-in-Err-flags_of c =
    let d = view c.args.value.now in
    let subject = c.in-Ok.ensures in
    after_fit fields_of_subject (fields_of_flags ++ (codes "features", expected.List) ∷ []) d c.in-Err-flags_of.wrong
    (subject_fits d _ _ _ subject.name subject.kind subject.condition)
    (before_more fields_of_flags ((codes "features", expected.List) ∷ []) d c.in-Err-flags_of.wrong
    c.in-Err-flags_of.ensures.fault)
