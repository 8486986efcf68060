use Rattle.cargo_platform.proofs.Scanning.{plain_stands}
use Rattle.cargo_platform.proofs.tokens.identifier_at.Goals as goal

pub returns-clause-token : goal.returns-clause-token
returns-clause-token c =
    let found = c.name-end.ensures in
    record {
      stands = plain_stands c.args.source.now.text.now _ c.args.start c.name-end.result.1 c.requires.first found.order
          found.boundary.0 found.name found.rest found.end c.requires.plain;
      boundary = found.boundary;
      sees = found.sees;
    }
