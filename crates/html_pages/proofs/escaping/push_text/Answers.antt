use Rattle.std.proofs.lemmas.Iterator.{YieldsList-from_chars}
use Rattle.std.proofs.lemmas.Iterator.Consumers.{YieldsList-end}
use Rattle.html_pages.proofs.Written.{more_written, all_written}
use Rattle.html_pages.proofs.escaping.push_text.Goals as goal

pub loop-c-preserved : goal.loop-c-preserved
loop-c-preserved c =
    more_written _ _ _ c.loop-c.yielded c.in-Some.c c.loop-c.invariant
    (rw c.in_ok-push_character.was at c.push_character.ensures)

pub returns : goal.returns
returns c =
    let ended = YieldsList-end (YieldsList-from_chars c.args.text.now c.utf8.text cc) c.loop-c.yielded _
    c.loop-c.yielded_by _ _ c.in-None.is c.next.ensures.steps in
    all_written _ _ c.loop-c.yielded _ ended.0 c.loop-c.invariant
