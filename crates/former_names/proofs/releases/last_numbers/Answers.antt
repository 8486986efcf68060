use Rattle.std.proofs.Common.{rules}
use Rattle.former_names.proofs.Points.{if_none, minor_unread, patch_unread, one_unread}
use Rattle.former_names.proofs.releases.last_numbers.Goals as goal

pub returns-in_err-number-in-Some-clause-unread : goal.returns-in_err-number-in-Some-clause-unread
returns-in_err-number-in-Some-clause-unread c =
    if_none _ _ (minor_unread c.args.text.now c.split_once.result c.split_once.ensures.cases
    (c.in-Some.minor, c.in-Some.patch) (search rules) (search rules))

pub returns-in_err-number-in-Some-2-clause-unread : goal.returns-in_err-number-in-Some-2-clause-unread
returns-in_err-number-in-Some-2-clause-unread c =
    if_none _ _ (patch_unread c.args.text.now c.split_once.result c.split_once.ensures.cases
    (c.in-Some.minor, c.in-Some.patch) (search rules) (search rules))

pub returns-in_err-number-in-None-clause-unread : goal.returns-in_err-number-in-None-clause-unread
returns-in_err-number-in-None-clause-unread c =
    if_none _ _ (one_unread c.args.text.now c.split_once.result c.split_once.ensures.cases
    (search rules) (search rules))
