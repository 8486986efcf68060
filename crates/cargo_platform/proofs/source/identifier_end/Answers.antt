use Rattle.std.proofs.Common.{◌≡◌, ◌∙◌, ◌+◌, ◌<◌, ◌≤◌, ℕ, List, sym, ap, subst, true, length, get_or, arith}
use Rattle.std.specs.Str.{IsCharBoundary, IsUtf8}
use Rattle.cargo_platform.specs.Chars.{is_identifier_rest}
use Rattle.cargo_platform.specs.Inside.Looking.{IsRun}
use Rattle.cargo_platform.specs.Reading.{characters_from}
use Rattle.cargo_platform.proofs.Looking.{ascii_step, ascii_steps, one_after_other}
use Rattle.cargo_platform.proofs.SomeCut.{rest_is_ascii}
use Rattle.cargo_platform.proofs.source.identifier_end.Goals as goal

-- the bytes of a run are below 128
steps : (text : List ℕ) (at run : ℕ) → IsUtf8 text → at + 16 ≤ length text → IsCharBoundary text at
    → IsRun is_identifier_rest text at 16 run →
    IsCharBoundary text (at + run) × (characters_from text at ≡ characters_from text (at + run) + run)
steps text at run utf8 room boundary passed = ascii_steps text at run utf8 (omega (arith, passed.within))
    (λ i from below. rest_is_ascii (get_or text i 0) (passed.passes i from below)) boundary

pub returns-then-run-lt-LANES-clause-boundary : goal.returns-then-run-lt-LANES-clause-boundary
returns-then-run-lt-LANES-clause-boundary c =
    let is = c.as_bytes-bytes.ensures.value in
    let found = rw is at c.identifier_run-run.ensures in
    (steps c.args.text.now c.by_block.at c.identifier_run-run.result c.utf8.text
    (omega (arith, ap length is, c.by_block-test.true)) c.by_block.invariant.boundary found).0

pub returns-then-run-lt-LANES-clause-characters : goal.returns-then-run-lt-LANES-clause-characters
returns-then-run-lt-LANES-clause-characters c =
    let is = c.as_bytes-bytes.ensures.value in
    let found = rw is at c.identifier_run-run.ensures in
    let step = steps c.args.text.now c.by_block.at c.identifier_run-run.result c.utf8.text
    (omega (arith, ap length is, c.by_block-test.true)) c.by_block.invariant.boundary found in
    omega (arith, step.1, c.by_block.invariant.blocks.1, c.by_block.invariant.characters)

pub by_block-preserved : goal.by_block-preserved
by_block-preserved c =
    let is = c.as_bytes-bytes.ensures.value in
    let text = c.args.text.now in
    let at = c.by_block.at in
    let run = c.identifier_run-run.result in
    let before = rw is at c.identifier_run-run.ensures in
    let whole : run ≡ 16 = omega (arith, before.within, c.if-run-lt-LANES.false) in
    let found : IsRun is_identifier_rest text at 16 16 = subst (IsRun is_identifier_rest text at 16) whole before in
    let step = steps text at 16 c.utf8.text (omega (arith, ap length is, c.by_block-test.true))
    c.by_block.invariant.boundary found in
    record {
      blocks = (c.by_block.invariant.blocks.0 + 1, omega (arith, c.by_block.invariant.blocks.1));
      boundary = step.0;
      rest = one_after_other (λ i. is_identifier_rest (get_or text i 0) ≡ true) c.args.from at (at + 16)
          c.by_block.invariant.rest found.passes;
      characters = omega (arith, step.1, c.by_block.invariant.characters);
    }

pub rest-preserved : goal.rest-preserved
rest-preserved c =
    let is = c.as_bytes-bytes.ensures.value in
    let within : c.rest.at < length c.args.text.now = rw is at c.rest-test.true in
    let rest : is_identifier_rest (get_or c.args.text.now c.rest.at 0) ≡ true =
    rw is at (sym c.continues_identifier.ensures ∙ c.if-continues_identifier.true) in
    let step = ascii_step c.args.text.now c.rest.at c.utf8.text within
    (rest_is_ascii _ rest) c.rest.invariant.boundary in
    let blocks = c.rest.invariant.blocks in
    record {
      blocks = (blocks.0, omega (arith, blocks.1), blocks.2);
      boundary = step.0;
      rest = λ i from below. grind (arith, c.rest.invariant.rest i);
      characters = omega (arith, step.1, c.rest.invariant.characters);
    }
