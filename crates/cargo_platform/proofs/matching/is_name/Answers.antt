use Rattle.std.proofs.Common.{◌∙◌, ap}
use Rattle.std.specs.Prelude.{bytes_eq}
use Rattle.std.specs.Cmp.Lexicographic.{texts_ties}
use Rattle.cargo_platform.proofs.matching.is_name.Goals as goal

pub returns-in-Name : goal.returns-in-Name
returns-in-Name c =
    rw c.in-Name.is
    (c.eq.ensures ∙ ap (λ z. bytes_eq z c.args.name.now) c.as_str.ensures.value ∙ texts_ties _ c.args.name.now)
