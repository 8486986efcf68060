use Rattle.std.proofs.Common.{◌∙◌, sym, ap}
use Rattle.known_targets.specs.Rows.{lists_value}
use Rattle.known_targets.specs.Table.{table_keys}
use Rattle.known_targets.proofs.Unlisted.{unlisted}
use Rattle.known_targets.proofs.matching_targets.is_known_value.Goals as goal

pub returns : goal.returns
returns c h =
    unlisted c.args.text.now table_keys
    (ap (lists_value c.args.text.now) (sym c.keys.ensures) ∙ sym c.lists_value.ensures ∙ h)
