use Rattle.std.proofs.Common.{map, take, ◌≤◌}
use Rattle.std.specs.List.{All}
use Rattle.manifests.specs.Declarations.{declarations_of}
use Rattle.manifest_lints_findings.specs.Spells.{IsRead, entry_read}
use Rattle.manifest_lints.specs.Reports.{AreFindingsOn, bytes_of}
use Rattle.manifest_lints.specs.Sames.{AreNoted, AreMembers}
use Rattle.manifest_lints.specs.Missed.{AreCovered}
use Rattle.manifest_lints.proofs.linting.findings_on.Given as goal

abbrev pub invariant-keys : goal.invariant-keys
invariant-keys l = record {
  findings :
      All IsRead l.read
      → AreFindingsOn l.context.known.now (declarations_of l.context.declared.now)
      (map entry_read (take l.place l.read))
      l.findings.items l.undecided.items;
  noted_keys : All IsRead l.read → AreNoted (map entry_read (take l.place l.read)) l.before;
  members : All IsRead l.read → AreMembers (map entry_read (take l.place l.read)) l.before;
  covered :
      All IsRead l.read
      → AreCovered l.context.known.now (map entry_read (take l.place l.read)) l.undecided.items l.before;
  bytes : l.bytes ≤ bytes_of (map entry_read (take l.place l.read));
}
