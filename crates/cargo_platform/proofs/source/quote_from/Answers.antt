use Rattle.std.proofs.Common.{◌≢◌, ◌+◌, get_or, arith}
use Rattle.cargo_platform.proofs.Looking.{one_after_other, passes_quote}
use Rattle.cargo_platform.proofs.source.quote_from.Goals as goal

pub by_block-preserved : goal.by_block-preserved
by_block-preserved c =
    let bytes = c.args.bytes.now in
    let at = c.by_block.at in
    let found = c.in_default.ensures.none in
    record {
      within = omega (arith, c.by_block-test.true);
      blocks = (c.by_block.invariant.blocks.0 + 1, omega (arith, c.by_block.invariant.blocks.1));
      value = one_after_other (λ i. get_or bytes i 0 ≢ 0x22) c.args.from at (at + 16) c.by_block.invariant.value
          (λ i above below. passes_quote (get_or bytes i 0) (found.passes i above below));
    }
