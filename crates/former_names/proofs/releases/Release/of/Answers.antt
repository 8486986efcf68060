use Rattle.std.proofs.Common.{rules}
use Rattle.former_names.proofs.Points.{if_none, no_release, major_unread, rest_unread}
use Rattle.former_names.proofs.releases.Release.of.Goals as goal

pub returns-in_err-major-clause-unread : goal.returns-in_err-major-clause-unread
returns-in_err-major-clause-unread c =
    if_none _ _ (no_release c.args.text.now c.split_once.result c.split_once.ensures.cases (search rules))

pub returns-in_err-minor-clause-unread : goal.returns-in_err-minor-clause-unread
returns-in_err-minor-clause-unread c =
    if_none _ _ (rest_unread c.args.text.now c.split_once.result c.split_once.ensures.cases
    (c.in_ok-major.major, c.in_ok-major.rest) (search rules) (search rules))

pub returns-in_err-number-clause-unread : goal.returns-in_err-number-clause-unread
returns-in_err-number-clause-unread c =
    if_none _ _ (major_unread c.args.text.now c.split_once.result c.split_once.ensures.cases
    (c.in_ok-major.major, c.in_ok-major.rest) (search rules) (search rules))
