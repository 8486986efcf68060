use Rattle.std.proofs.Common.{subst}
use Rattle.cargo_platform.specs.Trees.{value_of}
use Rattle.cargo_platform.specs.Facts.{pair_of}
use Rattle.exact_answers.specs.Inside.Ahead.{HasNumber, table_pairs}
use Rattle.exact_answers.proofs.Numbers.{short_number}
use Rattle.exact_answers.proofs.outlook.work_out.Goals as goal

pub finding_of-finding-requires : goal.finding_of-finding-requires
finding_of-finding-requires c =
    short_number c.args.table.now c.in-Pair.number (pair_of (value_of c.in-Pair._pair.now))
    (subst (HasNumber (table_pairs c.args.table.now)) c.in-Pair.is c.requires)
