use Rattle.std.proofs.Common.{rules, ◌≡◌, ◌∙◌, sym, length}
use Rattle.std.proofs.lemmas.Slice.Eq.{bytes_eq-Decides}
use Rattle.toml_spans.proofs.Views.{one_name}
use Rattle.toml_spans.proofs.names.is_name.Goals as goal

pub returns : goal.returns
returns c same =
    let none : length c.args.key.now.path.items ≡ 0 = search rules in
    one_name c.args.key.now c.args.name.now none
    (sym c.as_str.ensures.value ∙ (bytes_eq-Decides c.as_str.result.now c.args.name.now).0 (search rules))
