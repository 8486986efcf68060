use Rattle.cargo_platform.proofs.warnings.name_text.Goals as goal

pub returns : goal.returns
returns c = c.format.ensures.ok
