use Rattle.std.proofs.Common.{◌≡◌, drop, map, string_bytes}
use Rattle.exact_answers.specs.Possible.{has_key}
use Rattle.exact_answers.specs.Inside.Paths.{takes, turn_of}
use Rattle.exact_answers.proofs.path.takes_value.Given as goal

-- the answer depends on the splits that are left
abbrev pub invariant-loop-split : goal.invariant-loop-split
invariant-loop-split l =
    takes (has_key (string_bytes l.key.name)) (map turn_of (drop l.split-index l.splits))
    ≡ takes (has_key (string_bytes l.key.name)) (map turn_of l.splits)
