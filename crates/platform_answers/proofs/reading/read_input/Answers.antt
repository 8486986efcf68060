use Rattle.std.proofs.Common.{◌≡◌, ◌≤◌, length, ◌+◌, ◌++◌, take, rules, arith, length-append, length-take, ap, ◌∙◌}
use Rattle.std.proofs.lemmas.Grind.{common_steps}
use Rattle.std.proofs.KnownBytes.{Consumes-trans, Consumes-kept}
use Rattle.platform_answers.proofs.reading.read_input.Goals as goal

pub returns-then-n-len-clause-brought : goal.returns-then-n-len-clause-brought
returns-then-n-len-clause-brought g c =
    let within : c.in-Ok.n ≤ length c.read.new.piece = c.in-Ok.ensures.bound.0 in
    let full : c.len.result ≡ length c.loop-turn.bytes.items = search rules in
    let counted = c.in-Ok.ensures.ok in
    let longer : length
    (c.loop-turn.bytes.items ++ take c.in-Ok.n c.read.new.piece) ≡ length c.loop-turn.bytes.items + c.in-Ok.n =
    simp (length-append, length-take) (omega arith) in (
      c.loop-turn.bytes.items ++ take c.in-Ok.n c.read.new.piece,
      omega arith,
      record {
        given = Consumes-trans _ _ _ _ _ c.loop-turn.invariant.brought c.in-Ok.ensures.bytes.0;
        counted = grind (arith, counted, longer);
        unfailed = grind (arith, counted);
        ended = λ short. absurd (omega arith);
        unended = λ long. grind (arith, counted);
      },
    )

pub loop-turn-preserved : goal.loop-turn-preserved
loop-turn-preserved g c = elim c.match-read.branch [
  | goal.in-Ok+else-n-len+else-is_err w ↦
      let within : w.in-Ok.n ≤ length c.read.new.piece = w.in-Ok.ensures.bound.0 in
      let some : w.in-Ok.n ≡ 0 → ⊥ = w.in-Ok.n-test.1 in
      let full : w.len.result ≡ length c.loop-turn.bytes.items = search rules in
      let grown : c.match-read.bytes.items ≡ c.loop-turn.bytes.items ++ take w.in-Ok.n c.read.new.piece = search
      (rules, common_steps) in
      let longer : length c.match-read.bytes.items ≡ length c.loop-turn.bytes.items + w.in-Ok.n =
      ap length grown ∙ simp (length-append, length-take) (omega arith) in
      let counted = w.in-Ok.ensures.ok in
      record {
        reads = grind (arith, counted);
        room = grind (arith, counted);
        failed = search rules;
        empty_reads = grind (arith, counted);
        bytes = grind (arith, counted, longer);
        short = omega arith;
        brought = rw grown (Consumes-trans _ _ _ _ _ c.loop-turn.invariant.brought w.in-Ok.ensures.bytes.0);
      }
  | goal.in-Err+else-not-is_interrupted w ↦
      let same : c.match-read.bytes.items ≡ c.loop-turn.bytes.items = ap (λ x. x.items) w.bytes-is in
      let counted = w.in-Err.ensures.interrupted (search rules) in
      record {
        reads = grind (arith, counted);
        room = grind (arith, counted);
        failed = grind (arith, counted);
        empty_reads = grind (arith, counted);
        bytes = grind (arith, counted, same);
        short = rw same c.loop-turn.invariant.short;
        brought = rw same (Consumes-kept _ _ _ _ c.loop-turn.invariant.brought w.in-Err.ensures.bytes);
      }
]
