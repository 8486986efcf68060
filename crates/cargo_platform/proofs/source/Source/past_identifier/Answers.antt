use Rattle.std.proofs.Common.{◌≡◌, ap, ◌∙◌, true, arith}
use Rattle.std.specs.Prelude.{slice_index}
use Rattle.cargo_platform.specs.Chars.{is_identifier_rest}
use Rattle.cargo_platform.proofs.Looking.{first_and_others}
use Rattle.cargo_platform.proofs.source.Source.past_identifier.Goals as goal

pub returns-clause-rest : goal.returns-clause-rest
returns-clause-rest c =
    let text = c.args.self.now.text.now in
    let seen = rw c.in-Ascii.is at c.requires.seen in
    let class : is_identifier_rest c.in-Ascii.byte ≡ true =
    grind (arith, c.continues_identifier.ensures, c.if-not-continues_identifier.false) in
    first_and_others (λ i. is_identifier_rest (slice_index text i) ≡ true) c.args.from c.identifier_end-end.result.0
    (ap is_identifier_rest (seen.1.ascii seen.0) ∙ class) c.identifier_end-end.ensures.rest
