use Rattle.std.proofs.Common.{subst, IfSome}
use Rattle.known_licences.specs.Identifiers.{first_licences, other_licences}
use Rattle.known_licences.specs.Nearest.{IsOffered}
use Rattle.known_licences.proofs.Listed.{one_of}
use Rattle.known_licences.proofs.nearest.nearest_licence.Goals as goal

pub returns-in-Some : goal.returns-in-Some
returns-in-Some c =
    one_of first_licences other_licences c.args.text.now c.in-Some.near c.in_ok-first.first c.in_ok-other.other
    (subst (λ names. IfSome c.in_ok-first.first (IsOffered names c.args.text.now)) c.first_licences.ensures
    c.in_ok-first.ensures)
    (subst (λ names. IfSome c.in_ok-other.other (IsOffered names c.args.text.now)) c.other_licences.ensures
    c.in_ok-other.ensures)
    c.in-Some.ensures
