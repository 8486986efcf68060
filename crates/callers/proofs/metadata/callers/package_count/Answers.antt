use Rattle.callers.proofs.metadata.callers.package_count.Goals as goal

pub returns : goal.returns
returns c = (c.in_ok-metadata.metadata, c.in_ok-metadata.ensures, c.len.ensures)
