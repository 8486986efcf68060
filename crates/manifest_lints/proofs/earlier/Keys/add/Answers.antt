use Rattle.cargo_platform.specs.Trees.{condition_of}
use Rattle.manifest_lints.proofs.Noting.{same_members, same_undecided, same_puts}
use Rattle.manifest_lints.specs.Earlier.{noted}
use Rattle.manifest_lints.proofs.Noting.{notes_then}
use Rattle.manifest_lints.proofs.Classes.{same_classed, same_unlike}
use Rattle.manifest_lints.proofs.earlier.Keys.add.Goals as goal

-- what notes a condition adds no member
pub returns-in-None-clause-equivalent : goal.returns-in-None-clause-equivalent
returns-in-None-clause-equivalent c =
    same_members c.args.known.now c.note.new.self c.args.self.now (condition_of c.args.platform.now) c.compare.result
    c.in_ok-first.ensures.members c.compare.ensures.equivalent

pub returns-in-None-clause-undecided : goal.returns-in-None-clause-undecided
returns-in-None-clause-undecided c =
    same_undecided c.args.known.now c.args.budget c.note.new.self c.args.self.now (condition_of c.args.platform.now)
    c.compare.result c.in_ok-first.ensures.members c.compare.ensures.undecided

pub returns-in-Some-clause-classed : goal.returns-in-Some-clause-classed
returns-in-Some-clause-classed c =
    same_classed c.args.self.now c.note.new.self c.in_ok-first.ensures.members c.in_ok-first.ensures.classes

pub returns-in-None-clause-unlike : goal.returns-in-None-clause-unlike
returns-in-None-clause-unlike c = λ allows before.
    same_unlike c.args.known.now c.args.self.now c.note.new.self (condition_of c.args.platform.now) c.compare.result
    c.in_ok-first.ensures.members
    (c.compare.ensures.unlike allows
    (same_classed c.args.self.now c.note.new.self c.in_ok-first.ensures.members c.in_ok-first.ensures.classes before))

pub returns-in-None-clause-classed : goal.returns-in-None-clause-classed
returns-in-None-clause-classed c = λ before.
    c.compare.ensures.classed
    (same_classed c.args.self.now c.note.new.self c.in_ok-first.ensures.members c.in_ok-first.ensures.classes before)

pub returns-in-None-clause-notes : goal.returns-in-None-clause-notes
returns-in-None-clause-notes c =
    notes_then c.compare.result (noted c.args.self.now c.args.platform) c.args.self.now c.note.new.self
    c.compare.new.self c.args.index (condition_of c.args.platform.now) c.in_ok-first.ensures.notes
    c.compare.ensures.noted

pub returns-in-None-clause-puts : goal.returns-in-None-clause-puts
returns-in-None-clause-puts c =
    same_puts c.note.new.self c.args.self.now c.compare.new.self c.args.index c.args.platform c.compare.result
    c.in_ok-first.ensures.members c.compare.ensures.puts
