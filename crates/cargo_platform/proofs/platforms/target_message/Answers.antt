use Rattle.std.proofs.lemmas.Result.{IfOk-weaker}
use Rattle.std.proofs.Common.{string_bytes}
use Rattle.cargo_platform.proofs.TargetNames.{parenthesis_message, character_message}
use Rattle.cargo_platform.proofs.platforms.target_message.Goals as goal

pub returns-then-contains : goal.returns-then-contains
returns-then-contains c =
    IfOk-weaker c.from_str.result _ _
    (λ message is. parenthesis_message c.args.name.now c.contains.result c.contains.ensures.cases
    c.if-contains.true (string_bytes message) is) c.from_str.ensures.ok

pub returns : goal.returns
returns c =
    IfOk-weaker c.format.result _ _
    (λ message is. character_message c.args.name.now c.contains.result c.args.refused c.contains.ensures.cases
    c.if-contains.false c.requires (string_bytes message) is) c.format.ensures.ok
