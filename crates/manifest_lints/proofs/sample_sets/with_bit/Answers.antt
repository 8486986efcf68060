use Rattle.manifest_lints.proofs.SetWords.{one_more_bit, no_more_bit}
use Rattle.manifest_lints.proofs.sample_sets.with_bit.Goals as goal

pub returns-then-is_there : goal.returns-then-is_there
returns-then-is_there c = λ l. one_more_bit c.args.word c.args.place l c.args.is_there c.requires c.if-is_there.true

pub returns-else-is_there : goal.returns-else-is_there
returns-else-is_there c = λ l. no_more_bit c.args.word c.args.place l c.args.is_there c.if-is_there.false
