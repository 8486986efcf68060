use Rattle.std.proofs.Common.{◌∙◌, sym}
use Rattle.known_licences.proofs.Listed.{found_at, passed_at}
use Rattle.known_licences.proofs.identifiers.find.Goals as goal

pub returns-then-eq_ignore_ascii_case : goal.returns-then-eq_ignore_ascii_case
returns-then-eq_ignore_ascii_case c =
    sym (found_at c.args.names.now c.args.text.now c.names.name-index _ _ c.names-test.true
    c.eq_ignore_ascii_case.ensures.test c.if-eq_ignore_ascii_case.true)
    ∙ c.names.invariant

pub names-preserved : goal.names-preserved
names-preserved c =
    sym (passed_at c.args.names.now c.args.text.now c.names.name-index _ _ c.names-test.true
    c.eq_ignore_ascii_case.ensures.test c.if-eq_ignore_ascii_case.false)
    ∙ c.names.invariant
