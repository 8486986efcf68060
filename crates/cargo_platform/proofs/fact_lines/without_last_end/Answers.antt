use Rattle.std.proofs.Common.{◌∙◌, ap, refl, lit<}
use Rattle.std.proofs.lemmas.Str.Pattern.{strip_suffix_char}
use Rattle.std.specs.Prelude.{◌==◌}
use Rattle.std.specs.List.{slice_split}
use Rattle.cargo_platform.proofs.Lines.{split_lines}
use Rattle.cargo_platform.proofs.fact_lines.without_last_end.Goals as goal

pub returns : goal.returns
returns c = λ some.
    let found = strip_suffix_char 10 c.args.text.now c.strip_suffix.result c.strip_suffix.ensures.cases (lit< tt) in
    ap (λ x. slice_split (λ b. b == 10) x.now) c.unwrap_or.ensures
    ∙ split_lines c.args.text.now c.strip_suffix.result c.args.text refl some found
