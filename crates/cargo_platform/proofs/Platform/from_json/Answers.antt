use Rattle.std.proofs.Common.{◌≡◌, ap, ◌∙◌}
use Rattle.std.proofs.lemmas.Option.{same_Some}
use Rattle.serde_json.specs.Find.{as_str}
use Rattle.cargo_platform.proofs.Platform.from_json.Goals as goal

pub returns-in-Err-Parse-clause-span : goal.returns-in-Err-Parse-clause-span
returns-in-Err-Parse-clause-span c = λ text is.
    let same : c.in-Some.text.now ≡ text = same_Some _ _ (c.in-Some.ensures ∙ ap as_str is) in
    let e = c.in-Err-Parse.error in
    rw (← same) (rw c.in-Err-Parse.field-0-is at c.in-Err-Parse.ensures.span)
