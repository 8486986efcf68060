use Rattle.std.proofs.Common.{◌≡◌, ◌<◌, length, get_or, arith}
use Rattle.cargo_platform.proofs.Looking.{ascii_step}
use Rattle.cargo_platform.proofs.source.spaces_end.Goals as goal

pub spaces-preserved : goal.spaces-preserved
spaces-preserved c =
    let is = c.as_bytes-bytes.ensures.value in
    let within : c.spaces.at < length c.args.text.now = rw is at c.spaces-test.true in
    let space : get_or c.args.text.now c.spaces.at 0 ≡ 0x20 = rw (← is) (omega arith) in
    let step = ascii_step c.args.text.now c.spaces.at c.utf8.text within (omega arith) c.spaces.invariant.boundary in
    record {
      order = omega arith;
      boundary = step.0;
      spaces = λ i from below. grind (arith, c.spaces.invariant.spaces i);
      characters = omega arith;
    }
