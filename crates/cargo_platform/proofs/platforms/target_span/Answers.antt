use Rattle.std.proofs.Common.{true, false, refl}
use Rattle.cargo_platform.proofs.TargetNames.{end_span, character_span, refused_is_found}
use Rattle.cargo_platform.proofs.platforms.target_span.Goals as goal

pub unreachable-requires : goal.unreachable-requires
unreachable-requires c = refused_is_found c.args.name.now c.args.refused c.requires c.in_default.ensures.cases

pub returns-then-starts_with : goal.returns-then-starts_with
returns-then-starts_with c =
    end_span c.args.name.now true c.if-starts_with.ensures.cases refl

pub returns : goal.returns
returns c =
    rw c.len_utf8.ensures.value
    (character_span c.args.name.now c.args.refused c.in-Some.start false c.if-starts_with.ensures.cases refl c.requires
    c.in-Some.ensures.cases)
