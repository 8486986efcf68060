use Rattle.std.proofs.Common.{◌∙◌, ap, option_map, false, List, ◌∷◌, ◌+◌}
use Rattle.std.proofs.lemmas.List.{take_rest}
use Rattle.cargo_platform.specs.declared.tokens.Token.{Token}
use Rattle.cargo_platform.specs.Tokens.{Ident, LeftParen, RightParen}
use Rattle.partial_facts.specs.Partly.{names_of}
use Rattle.manifests.specs.Declarations.{entry_in, names_from, lexemes_in}
use Rattle.manifests.specs.declared.declared.Turn.TheVariants as turn
use Rattle.manifests.proofs.Stepping.{ok_as, one_turn}
use Rattle.manifests.proofs.declared.names_in.Goals as goal

pub returns-in-Last : goal.returns-in-Last
returns-in-Last c =
    ok_as (option_map entry_in) c.last.result _ _
    (ap (λ (ts : List Token). names_from (names_of c.names.names.items)
    (Ident false c.in-Last.name.now ∷ RightParen ∷ lexemes_in ts)) (take_rest c.args.tokens.now (c.names.at + 1))
    ∙ one_turn c.args.tokens.now c.names.at _ c.names-test.true (names_of c.names.names.items) c.names.before
    (turn.Last c.in-Last.name) _ c.in-Last.ensures c.names.invariant) c.last.ensures

pub returns-in-Values : goal.returns-in-Values
returns-in-Values c =
    ok_as (option_map entry_in) c.with_values.result _ _
    (ap (λ (ts : List Token). names_from (names_of c.names.names.items)
    (Ident c.in-Values.raw c.in-Values.name.now ∷ LeftParen ∷ lexemes_in ts))
    (take_rest c.args.tokens.now (c.names.at + 1))
    ∙ one_turn c.args.tokens.now c.names.at _ c.names-test.true (names_of c.names.names.items) c.names.before
    (turn.Values c.in-Values.raw c.in-Values.name) _ c.in-Values.ensures c.names.invariant) c.with_values.ensures

pub returns-in-Fault : goal.returns-in-Fault
returns-in-Fault c =
    one_turn c.args.tokens.now c.names.at _ c.names-test.true (names_of c.names.names.items) c.names.before
    turn.Fault _ c.in-Fault.ensures c.names.invariant
