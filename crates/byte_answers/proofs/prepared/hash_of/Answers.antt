use Rattle.std.proofs.Common.{sym}
use Rattle.byte_answers.proofs.Openings.{hash_read, hash_short}
use Rattle.byte_answers.proofs.prepared.hash_of.Goals as goal

pub returns-in-Some-clause-hash : goal.returns-in-Some-clause-hash
returns-in-Some-clause-hash c =
    sym (hash_read c.args.texts.now c.in-Some._front.now c.in-Some.number c.in-Some.ensures.1 c.in-Some.ensures.0)

pub returns-in-None-clause-hash : goal.returns-in-None-clause-hash
returns-in-None-clause-hash c = sym (hash_short c.args.texts.now c.in-None.ensures)
