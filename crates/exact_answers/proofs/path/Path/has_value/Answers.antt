use Rattle.std.proofs.Common.{◌≡◌, ◌∙◌, true, map, string_bytes}
use Rattle.exact_answers.specs.Possible.{has_key}
use Rattle.exact_answers.specs.Inside.Paths.{base_of, turn_of}
use Rattle.exact_answers.proofs.OnPath.{value_then, value_else}
use Rattle.exact_answers.proofs.path.Path.has_value.Goals as goal

pub returns-then-takes_value : goal.returns-then-takes_value
returns-then-takes_value c =
    let t : c.takes_value.result ≡ true = cc in
    t ∙ value_then (has_key (string_bytes c.args.key.now.name)) (base_of c.args.self.now.known.now)
    (map turn_of c.args.self.now.splits.items) (cc)

pub returns-else-takes_value : goal.returns-else-takes_value
returns-else-takes_value c =
    value_else (has_key (string_bytes c.args.key.now.name)) (base_of c.args.self.now.known.now)
    (map turn_of c.args.self.now.splits.items) _ (cc) c.has_value.ensures
