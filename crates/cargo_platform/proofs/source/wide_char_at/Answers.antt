use Rattle.std.proofs.Common.{◌∙◌, sym}
use Rattle.cargo_platform.proofs.Looking.{char_here}
use Rattle.cargo_platform.proofs.source.wide_char_at.Goals as goal

-- the first of the characters from the place on
pub returns : goal.returns
returns c =
    char_here c.args.text.now _ c.args.at c.in-Some.c c.utf8.text c.requires.begin
    (sym (c.chars.ensures.rest ∙ c.range_from.ensures.value) ∙ c.in-Some.ensures.steps.0)
