use Rattle.std.proofs.Common.{subst, get_or}
use Rattle.cargo_platform.specs.Inside.Looking.{IsCharAt}
use Rattle.cargo_platform.proofs.Looking.{ascii_here}
use Rattle.cargo_platform.proofs.source.character_at.Goals as goal

-- a byte below 128 is a character
pub returns-then-byte-lt128 : goal.returns-then-byte-lt128
returns-then-byte-lt128 c =
    let is = c.as_bytes-bytes.ensures.value in
    let bytes = c.as_bytes-bytes.result.now in (
      c.if-byte-lt128.true,
      subst (λ text. IsCharAt text c.args.at (get_or bytes c.args.at 0)) is
          (ascii_here bytes c.args.at c.as_bytes-bytes.ensures.utf8 c.if-at-bytes.false c.if-byte-lt128.true
          (rw is c.requires)),
    )
