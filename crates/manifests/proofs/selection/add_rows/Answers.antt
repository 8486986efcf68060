use Rattle.std.proofs.Common.{◌∙◌, refl, sym, ap, map}
use Rattle.manifests.specs.Tables.{row_of}
use Rattle.manifests.proofs.Chosen.{of_key}
use Rattle.manifests.proofs.selection.add_rows.Goals as goal

pub returns-clause-rows : goal.returns-clause-rows
returns-clause-rows c =
    of_key _ _ _ _ _ _ _ c.in-Ok.ensures.condition (sym c.in-Some.ensures)
    (ap (map row_of) c.deref.ensures.value ∙ c.in_ok-dependencies.ensures) c.in_ok-add_chosen.ensures

pub returns-in-Err-Parse-clause-error : goal.returns-in-Err-Parse-clause-error
returns-in-Err-Parse-clause-error c =
    let read = rw c.in-Err-Parse.field-0-is at c.in-Err-Parse.ensures in
    rw c.in-Err-Parse.field-0-is (record { this = refl; nothing = read.refused; fault = read.span })
