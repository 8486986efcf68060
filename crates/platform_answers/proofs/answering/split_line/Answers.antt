use Rattle.std.proofs.Common.{◌≡◌, Some}
use Rattle.platform_answers.proofs.Cutting.{split_some, split_none}
use Rattle.platform_answers.proofs.answering.split_line.Goals as goal

pub returns-in-Some-clause-line : goal.returns-in-Some-clause-line
returns-in-Some-clause-line c =
    let is : c.split_once.result ≡ Some c.in-Some.parts = cc in
    (split_some c.args.text.now _ _ c.split_once.ensures.cases is).line

pub returns-in-Some-clause-after : goal.returns-in-Some-clause-after
returns-in-Some-clause-after c =
    let is : c.split_once.result ≡ Some c.in-Some.parts = cc in
    (split_some c.args.text.now _ _ c.split_once.ensures.cases is).after

pub returns-in-None-clause-line : goal.returns-in-None-clause-line
returns-in-None-clause-line c = (split_none c.args.text.now _ c.split_once.ensures.cases c.in-None.is).line

pub returns-in-None-clause-after : goal.returns-in-None-clause-after
returns-in-None-clause-after c = (split_none c.args.text.now _ c.split_once.ensures.cases c.in-None.is).after
