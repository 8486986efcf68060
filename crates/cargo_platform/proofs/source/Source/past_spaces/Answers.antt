use Rattle.std.proofs.Common.{◌≡◌, ◌∙◌, ◌≤◌, arith}
use Rattle.std.specs.Prelude.{slice_index}
use Rattle.cargo_platform.proofs.Looking.{first_and_others}
use Rattle.cargo_platform.proofs.Scanning.{only_spaces}
use Rattle.cargo_platform.proofs.source.Source.past_spaces.Goals as goal

pub returns-clause-spaces : goal.returns-clause-spaces
returns-clause-spaces c =
    let text = c.args.self.now.text.now in
    let found = c.spaces_end-end.ensures in
    let seen = rw c.in-Ascii.is at c.requires.seen in
    let ordered : c.args.from ≤ c.spaces_end-end.result = omega (arith, found.order) in
    only_spaces text c.args.from c.spaces_end-end.result ordered found.boundary.0
    (first_and_others (λ i. slice_index text i ≡ 0x20) c.args.from c.spaces_end-end.result
    (seen.1.ascii seen.0 ∙ c.if-byte-ne32.false) found.spaces)
