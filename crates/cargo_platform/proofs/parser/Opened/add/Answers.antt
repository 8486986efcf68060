use Rattle.std.proofs.Common.{ap, ◌∷◌, map, reverse}
use Rattle.std.proofs.lemmas.Result.{IfOk-weaker}
use Rattle.cargo_platform.specs.Walk.{Listed}
use Rattle.cargo_platform.specs.Inside.Parsing.{opening, is_all}
use Rattle.cargo_platform.proofs.parser.Opened.add.Goals as goal

pub returns : goal.returns
returns c =
    let outer = reverse (map opening c.args.self.now.outer.items) in
    IfOk-weaker c.push_member.result _ _
    (λ done same. rw c.in-List.is (ap (λ es. Listed (is_all c.in-List._word) es ∷ outer) same)) c.push_member.ensures
