use Rattle.byte_answers.proofs.Flats.{numbers_behind}
use Rattle.byte_answers.proofs.unflat.last_numbers.Goals as goal

pub returns : goal.returns
returns c = (
  numbers_behind c.args.bytes.now c.in_ok-tag.rest.now c.in_ok-rest.rest.now c.in_ok-before.before.now
      c.in_ok-before.a c.in_ok-rest.b c.in_ok-tag.tag.now c.in_ok-tag.ensures.cases.0 c.in_ok-rest.ensures.0
      c.in_ok-before.ensures.0,
  c.in_ok-before.ensures.1,
  c.in_ok-rest.ensures.1,
)
