use Rattle.std.proofs.Common.{◌≡◌, ◌≢◌, ◌∙◌, ◌++◌, [], ◌∷◌, sym, ap, subst, length, append_assoc, length-append, arith}
use Rattle.std.proofs.Common.{rules, inl, inr, string_bytes}
use Rattle.std.proofs.lemmas.Grind.{common_steps}
use Rattle.cargo_platform.specs.Lines.{lines_of, IsUnbroken}
use Rattle.target_tables.specs.Rows.{AreFilled}
use Rattle.target_tables.proofs.Fronts.{all_append, lines_of_ended, one_more_line}
use Rattle.target_tables.proofs.blocks.take_block.Goals as goal

pub returns-then-is_empty-clause-lines : goal.returns-then-is_empty-clause-lines
returns-then-is_empty-clause-lines c =
    let p = c.lines.invariant.passed in
    let some : c.lines.rest.now ≢ [] = search (rules, common_steps) in
    let empty : c.first_line.result.0.now ≡ [] = search (rules, common_steps) in
    let same : lines_of (string_bytes c.lines.front) ≡ p.0 = ap lines_of p.3 ∙ lines_of_ended p.0 p.1 in
    record {
      lines = p.4 ∙ ap (λ z. z ++ lines_of c.lines.rest.now) (sym same);
      filled = subst (λ z. AreFilled z) (sym same) p.2;
      end =
          inr (
            lines_of c.first_line.result.1.now,
            c.first_line.ensures.lines some ∙ ap (λ z. z ∷ lines_of c.first_line.result.1.now) empty,
          );
    }

pub returns-then-is_empty-clause-length : goal.returns-then-is_empty-clause-length
returns-then-is_empty-clause-length c =
    let p = c.lines.invariant.passed in
    let same : lines_of (string_bytes c.lines.front) ≡ p.0 = ap lines_of p.3 ∙ lines_of_ended p.0 p.1 in
    omega (arith, ap length same, p.5)

pub lines-preserved : goal.lines-preserved
lines-preserved c =
    let p = c.lines.invariant.passed in
    let line = c.first_line.result.0.now in
    let some : c.lines.rest.now ≢ [] = search (rules, common_steps) in
    let filled : c.first_line.result.0.now ≢ [] = search (rules, common_steps) in
    record {
      passed = (
        p.0 ++ line ∷ [],
        all_append (λ z. IsUnbroken z) p.0 (line ∷ []) p.1 (c.first_line.ensures.unbroken, tt),
        all_append (λ z. z ≢ []) p.0 (line ∷ []) p.2 (filled, tt),
        one_more_line _ _ _ line p.0 p.3 c.in_ok-push_str.ensures.bytes c.in_ok-push_str-2.ensures.bytes,
        p.4 ∙ ap (λ z. p.0 ++ z) (c.first_line.ensures.lines some)
            ∙ sym (append_assoc p.0 (line ∷ []) (lines_of c.first_line.result.1.now)),
        omega (arith, length-append p.0 (line ∷ []), p.5, c.first_line.ensures.ended some),
      );
      text = c.first_line.ensures.utf8;
    }

pub returns-clause-lines : goal.returns-clause-lines
returns-clause-lines c =
    let p = c.lines.invariant.passed in
    let empty : c.lines.rest.now ≡ [] = search (rules, common_steps) in
    let same : lines_of (string_bytes c.lines.front) ≡ p.0 = ap lines_of p.3 ∙ lines_of_ended p.0 p.1 in
    record {
      lines = p.4 ∙ ap (λ z. z ++ lines_of c.lines.rest.now) (sym same);
      filled = subst (λ z. AreFilled z) (sym same) p.2;
      end = inl (ap lines_of empty);
    }

pub returns-clause-length : goal.returns-clause-length
returns-clause-length c =
    let p = c.lines.invariant.passed in
    let same : lines_of (string_bytes c.lines.front) ≡ p.0 = ap lines_of p.3 ∙ lines_of_ended p.0 p.1 in
    omega (arith, ap length same, p.5)
