use Rattle.std.proofs.Common.{◌≡◌, ◌≤◌, ◌*◌, length, IfSome}
use Rattle.known_licences.specs.Identifiers.{names_of}
use Rattle.known_licences.specs.Nearest.{IsOffered}
use Rattle.known_licences.proofs.nearest.nearest.Given as goal

-- what was found is near, and so is what needs no more edits
abbrev pub invariant-names : goal.invariant-names
invariant-names l = (l.least * 3 ≤ length l.text) × IfSome l.found (IsOffered (names_of l.names) l.text)
