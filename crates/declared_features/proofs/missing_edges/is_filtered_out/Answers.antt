use Rattle.declared_features.proofs.Enabling.{not_from, not_true}
use Rattle.declared_features.proofs.Missing.{filtered_from, filtered_key}
use Rattle.declared_features.proofs.missing_edges.is_filtered_out.Goals as goal

pub returns : goal.returns
returns c =
    let graph = c.args.searched.now.graph in
    let node = c.args.node in
    let declared = c.args.declared.now in
    let found = c.args.found.now in (
      λ h.
          filtered_from graph node declared found.enabled found.keys c.has_key.result c.requires.enabled c.requires.keys
          (c.is_enabled.ensures.0 c.if-not-is_enabled.false)
          (c.may_be_filtered.ensures.0 c.if-not-may_be_filtered.false)
          c.has_key.ensures (not_true c.has_key.result h),
      λ is.
          not_from c.has_key.result
          (filtered_key graph node declared found.keys c.has_key.result c.requires.keys c.has_key.ensures is),
    )
