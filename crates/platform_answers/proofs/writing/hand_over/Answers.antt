use Rattle.std.proofs.Common.{◌≡◌, ◌≤◌, ◌<◌, ℕ, List, length, ◌+◌, ◌-◌, ◌^◌, take, drop, inl, inr}
use Rattle.std.proofs.Common.{rules, arith, length-drop, ap, ◌∙◌}
use Rattle.std.proofs.lemmas.Grind.{common_steps}
use Rattle.std.proofs.Math.Seq.{take-add}
use Rattle.std.proofs.KnownBytes.{Appends-trans, Appends-kept}
use Rattle.platform_answers.proofs.writing.hand_over.Goals as goal
use Rattle.platform_answers.proofs.writing.hand_over.Goals.{in-Ok, in-Err+else-not-is_interrupted}

pub loop-turn-preserved : goal.loop-turn-preserved
loop-turn-preserved g c = elim c.match-write.branch [
  | in-Ok w ↦
      let some : w.in-Ok.n ≡ 0 → ⊥ = w.in-Ok.n-test.1 in
      let left : List ℕ = drop c.loop-turn.taken c.args.text.now in
      let cut : take (length c.args.text.now - c.loop-turn.taken) left ≡ left = search (rules, common_steps) in
      let within : w.in-Ok.n ≤ length left = rw cut at w.in-Ok.ensures.bound in
      let longer : length left
      ≡ length c.args.text.now - c.loop-turn.taken = length-drop c.loop-turn.taken c.args.text.now in
      let counted = w.in-Ok.ensures.ok in
      let same : c.match-write.taken ≡ c.loop-turn.taken + w.in-Ok.n = w.taken-is in
      let next = rw cut at w.in-Ok.ensures.bytes in
      record {
        writes = grind (arith, counted);
        unfailed = grind (arith, counted);
        unflushed = grind (arith, counted);
        within = omega arith;
        each = grind (arith, counted);
        interrupted = grind (arith, counted);
        written = rw (same, take-add) (Appends-trans _ _ _ _ _ c.loop-turn.invariant.written next);
      }
  | in-Err+else-not-is_interrupted w ↦
      let same : c.match-write.taken ≡ c.loop-turn.taken = w.taken-is in
      let counted = w.in-Err.ensures.interrupted (search rules) in
      let before = c.loop-turn.output.counts.interrupted_writes in
      let few : before + 1 < 2 ^ 64 = omega arith in
      let grown : c.write.new.self.counts.interrupted_writes ≡ before + 1 = ap (λ x. x.interrupted_writes) counted
      ∙ omega arith in
      record {
        writes = grind (arith, counted);
        unfailed = grind (arith, counted);
        unflushed = grind (arith, counted);
        within = omega arith;
        each = omega arith;
        interrupted = omega arith;
        written = rw same (Appends-kept _ _ _ _ c.loop-turn.invariant.written w.in-Err.ensures.bytes);
      }
]

pub returns-in-Ok-eq0-clause-fault : goal.returns-in-Ok-eq0-clause-fault
returns-in-Ok-eq0-clause-fault g c =
    let counted = c.in-Ok-eq0.ensures.ok in
    λ _. inl (grind (arith, counted))

pub returns-then-not-is_interrupted-clause-fault : goal.returns-then-not-is_interrupted-clause-fault
returns-then-not-is_interrupted-clause-fault g c =
    let counted = c.in-Err.ensures.failed (search rules) in
    λ _. inl (grind (arith, counted))

pub returns-then-taken-text-2-clause-unfailed : goal.returns-then-taken-text-2-clause-unfailed
returns-then-taken-text-2-clause-unfailed g c = c.loop-turn.invariant.unfailed

pub returns-clause-fault : goal.returns-clause-fault
returns-clause-fault g c = λ _. inr (c.loop-turn.invariant.unfailed, omega arith, omega arith)
