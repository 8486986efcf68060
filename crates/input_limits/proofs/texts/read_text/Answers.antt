use Rattle.input_limits.proofs.Taking.{text_whole}
use Rattle.input_limits.proofs.texts.read_text.Goals as goal

pub returns-clause-whole : goal.returns-clause-whole
returns-clause-whole g c =
    text_whole g.R.Read.remaining c.args.reader c.take-start.result.inner c.min-limit.result
    c.take-start.result.limit _ _ _ c.take-start.ensures.inner c.take-start.ensures.limit
    c.new-bytes.ensures.items c.text_of.ensures.text c.text_of.ensures.within c.in_ok-_count.ensures.bytes
