use Rattle.manifest_answers.proofs.Shallow.{one_more, all_gone_over}
use Rattle.manifest_answers.proofs.deep.deep_of.Goals as goal

pub keys-preserved : goal.keys-preserved
keys-preserved c =
    one_more c.args.keys.now c.keys.key-index c.key-item.result c.keys-test.true c.key-item.is c.keys.invariant
    c.in_default.ensures.shallow

pub returns-clause-shallow : goal.returns-clause-shallow
returns-clause-shallow c =
    all_gone_over c.args.keys.now c.keys.key-index c.keys-test.false c.keys.invariant
