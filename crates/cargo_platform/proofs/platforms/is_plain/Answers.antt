use Rattle.std.proofs.Common.{ap, length, arith}
use Rattle.cargo_platform.specs.Platforms.{is_plain_byte}
use Rattle.cargo_platform.proofs.Scanning.{all_each}
use Rattle.cargo_platform.proofs.TargetNames.{plain_name}
use Rattle.cargo_platform.proofs.platforms.is_plain.Goals as goal

pub returns : goal.returns
returns c = λ done.
    let name = c.args.name.now in
    let size = ap length c.as_bytes-bytes.ensures.value in
    plain_name name (all_each is_plain_byte name (λ i below.
    c.rest.invariant.plain i (omega arith) (omega (arith, size, c.rest-test.false))))
