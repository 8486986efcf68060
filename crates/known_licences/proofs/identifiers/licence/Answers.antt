use Rattle.std.proofs.Common.{◌∙◌, sym, ap, option_map}
use Rattle.known_licences.specs.Identifiers.{listed, first_licences, other_licences}
use Rattle.known_licences.proofs.Listed.{in_first, in_other}
use Rattle.known_licences.proofs.identifiers.licence.Goals as goal

pub returns-in-Some : goal.returns-in-Some
returns-in-Some c =
    in_first first_licences other_licences c.args.id.now c.in-Some.name.now
    (ap (λ names. listed names c.args.id.now) (sym c.first_licences.ensures) ∙ sym c.find.ensures
    ∙ ap (option_map (λ name. name.now)) c.in-Some.is)

pub returns-in-None : goal.returns-in-None
returns-in-None c =
    in_other first_licences other_licences c.args.id.now _
    (ap (λ names. listed names c.args.id.now) (sym c.first_licences.ensures) ∙ sym c.find.ensures
    ∙ ap (option_map (λ name. name.now)) c.in-None.is)
    (c.find-in-None.ensures ∙ ap (λ names. listed names c.args.id.now) c.other_licences.ensures)
