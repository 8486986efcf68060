use Rattle.std.proofs.Common.{◌≡◌, true, not, string_bytes, bytes_eq}
use Rattle.partial_facts.specs.Partly.{is_named, names_of}
use Rattle.exact_answers.proofs.Pairs.{two_values}
use Rattle.exact_answers.proofs.goal_diagrams.building.are_values.Goals as goal

pub returns-then-one_key : goal.returns-then-one_key
returns-then-one_key c = λ last.
    let named : is_named (string_bytes c.args.key.now.name) (names_of c.args.single.now) ≡ true = cc in
    let key : c.is_text-one_key.result ≡ true = cc in
    let same_key : bytes_eq c.as_str.result.now c.as_str-2.result.now ≡ true = cc in
    let differ : not (bytes_eq c.args.value.now c.args.other_value.now) ≡ true = cc in
    two_values (names_of c.args.single.now) (string_bytes c.args.key.now.name)
    (string_bytes c.args.other_key.now.name) c.args.value.now c.args.other_value.now named (cc) differ
