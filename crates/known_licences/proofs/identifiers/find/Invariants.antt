use Rattle.std.proofs.Common.{◌≡◌, drop}
use Rattle.known_licences.specs.Identifiers.{names_of, listed}
use Rattle.known_licences.proofs.identifiers.find.Given as goal

-- the answer is that of the names that are left
abbrev pub invariant-names : goal.invariant-names
invariant-names l = listed (names_of (drop l.name-index l.names)) l.text ≡ listed (names_of l.names) l.text
