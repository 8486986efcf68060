use Rattle.std.proofs.Common.{◌≡◌, ◌∙◌, ◌++◌, [], ◌∷◌, sym, ap, refl}
use Rattle.std.proofs.Common.{length, append_assoc, length-append, arith, lit≤, lit<}
use Rattle.std.proofs.lemmas.Str.Pattern.{strip_prefix_char}
use Rattle.cargo_platform.specs.Lines.{lines_of}
use Rattle.cargo_platform.proofs.SomeCut.{ascii_sides}
use Rattle.target_tables.proofs.Fronts.{all_append, no_empty_first}
use Rattle.target_tables.proofs.blocks.skip_blank_lines.Goals as goal

pub lines-preserved : goal.lines-preserved
lines-preserved c =
    let rest = c.lines.rest.now in
    let behind = c.in-Some.behind.now in
    let p = c.lines.invariant.passed in
    let is =
    rw c.in-Some.is at (strip_prefix_char 10 rest c.strip_prefix.result c.strip_prefix.ensures.cases (lit< tt)) in
    record {
      passed = (
        p.0 ++ [] ∷ [],
        all_append (λ l. l ≡ []) p.0 ([] ∷ []) p.1 (refl, tt),
        omega (arith, length-append p.0 ([] ∷ []), p.2),
        p.3 ∙ ap (λ z. p.0 ++ lines_of z) is ∙ sym (append_assoc p.0 ([] ∷ []) (lines_of behind)),
      );
      within = omega (arith, ap length is, c.lines.invariant.within);
      text = (ascii_sides 10 rest [] behind (lit≤ tt) c.lines.invariant.text is).1;
    }

pub returns-clause-lines : goal.returns-clause-lines
returns-clause-lines c =
    let rest = c.lines.rest.now in
    let p = c.lines.invariant.passed in
    let none =
    rw c.in_default.is at (strip_prefix_char 10 rest c.strip_prefix.result c.strip_prefix.ensures.cases (lit< tt)) in
    record { gap = p.0; lines = p.3; empty = p.1; size = p.2; behind = no_empty_first rest none }
