use Rattle.std.proofs.Common.{rules}
use Rattle.known_targets.proofs.open_names.OpenNames.has.Goals as goal

pub returns-in-Some-Name : goal.returns-in-Some-Name
returns-in-Some-Name c =
    let all = c.args.self.now.has_names c.in-Some-Name.set c.in-Some-Name.is-0 c.as_str.result.now in
    search (all, rules)
