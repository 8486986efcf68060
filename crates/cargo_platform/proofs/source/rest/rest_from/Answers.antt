use Rattle.std.proofs.Common.{subst, arith}
use Rattle.cargo_platform.specs.Cut.{AreSpaces}
use Rattle.cargo_platform.proofs.Scanning.{only_spaces, rest_begins}
use Rattle.cargo_platform.proofs.source.rest.rest_from.Goals as goal

pub returns-then-start-text : goal.returns-then-start-text
returns-then-start-text c =
    let found = c.spaces_end-start.ensures in
    let text = c.args.source.now.text.now in
    subst (AreSpaces text c.args.at) c.if-start-text.true
    (only_spaces text c.args.at c.spaces_end-start.result found.order found.boundary.0 found.spaces)

pub returns : goal.returns
returns c =
    let found = c.spaces_end-start.ensures in
    record {
      start = c.spaces_end-start.result;
      apart = only_spaces c.args.source.now.text.now c.args.at c.spaces_end-start.result
          found.order found.boundary.0 found.spaces;
      bytes = c.range_from.ensures.value;
      begins = rw c.range_from.ensures.value
          (rest_begins c.args.source.now.text.now c.spaces_end-start.result (omega arith) found.past);
    }
