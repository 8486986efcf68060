use Rattle.byte_answers.proofs.Openings.{entry_last}
use Rattle.byte_answers.proofs.prepared.last_entry.Goals as goal

pub returns : goal.returns
returns c = (
  entry_last c.args.index.now c.in_ok-before.before.now c.in_ok-before.entry.now c.in_ok-rest.rest.now
      c.in_ok-rest-2.rest.now c.in_ok-_none._none.now c.in_ok-_none.start c.in_ok-rest-2.name_size
      c.in_ok-rest.value_mark c.in_ok-before.ensures.cases.0 c.in_ok-before.ensures.cases.1
      c.in_ok-before.ensures.cases.2 c.in_ok-rest.ensures.0 c.in_ok-rest-2.ensures.0 c.in_ok-_none.ensures.0,
  (c.in_ok-_none.ensures.1, c.in_ok-rest-2.ensures.1, c.in_ok-rest.ensures.1),
)
