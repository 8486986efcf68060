use Rattle.std.proofs.Common.{◌≡◌, ◌∙◌, sym}
use Rattle.declared_features.proofs.missing_edges.Searched.has_no_library.Goals as goal

pub returns : goal.returns
returns c =
    let held = c.requires c.args.declared.now.name.now in (
      λ h. held.0 (sym c.contains.ensures ∙ h),
      λ lacks. c.contains.ensures ∙ held.1 lacks,
    )
