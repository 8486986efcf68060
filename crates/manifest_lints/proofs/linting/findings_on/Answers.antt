use Rattle.std.proofs.Common.{◌≡◌, ◌∙◌, refl, sym, ap, subst, ℕ, List, [], ◌∷◌, ◌++◌, take, map, length, get_or}
use Rattle.std.proofs.Common.{arith, ◌+◌, ◌≤◌, IsTrue}
use Rattle.std.proofs.lemmas.List.{length-map, length-take-le}
use Rattle.std.specs.List.{All}
use Rattle.exact_answers.specs.declared.fact_constraints.FactConstraints.{FactConstraints}
use Rattle.manifests.specs.Declarations.{DeclaredEntry, declarations_of}
use Rattle.manifest_lints_findings.specs.declared.findings.Finding.{Finding}
use Rattle.manifest_lints_findings.specs.declared.readings.ReadKey.{ReadKey}
use Rattle.manifest_lints_findings.specs.Known.{IsKnown}
use Rattle.manifest_lints_findings.specs.Spells.{IsRead, entry_read}
use Rattle.manifest_lints.specs.CheckedKeys.{applicable_codes}
use Rattle.manifest_lints.specs.Sames.{AreNoted, AreMembers}
use Rattle.manifest_lints.specs.Missed.{AreCovered}
use Rattle.manifest_lints.specs.Reports.{AreFindingsOn, on_none, IsFound, AddsFindings, told_marks, left_open}
use Rattle.manifest_lints.specs.Reports.{bytes_of, AreTooLong}
use Rattle.manifest_lints.proofs.Lengths.{bytes_more, too_long}
use Rattle.manifest_lints.proofs.MoreSames.{none_noted}
use Rattle.manifest_lints.proofs.MoreEquivalents.{no_members}
use Rattle.manifest_lints.proofs.Missed.{none_covered}
use Rattle.manifest_lints.proofs.Reports.{one_more, next_entries}
use Rattle.manifest_lints.proofs.linting.findings_on.Goals as goal

none_yet : (k : FactConstraints) (ds : List DeclaredEntry) (fs : List Finding) (ns : List ℕ) → fs ≡ [] → ns ≡ []
    → AreFindingsOn k ds [] fs ns
none_yet k ds fs ns is open_is =
    subst (λ gs. AreFindingsOn k ds [] gs ns) (sym is) (subst (AreFindingsOn k ds [] []) (sym open_is) on_none)

pub keys-init : goal.keys-init
keys-init c = record {
  findings = λ all.
      none_yet c.args.context.now.known.now (declarations_of c.args.context.now.declared.now)
      c.new-findings.result.items c.new-undecided.result.items c.new-findings.ensures.items
      c.new-undecided.ensures.items;
  noted_keys = λ all. none_noted c.new-before.result c.new-before.ensures.none;
  members = λ all. no_members c.new-before.result c.new-before.ensures.no_members;
  covered = λ all.
      none_covered c.args.context.now.known.now c.new-undecided.result.items c.new-before.result
      c.new-before.ensures.classed;
  bytes = omega arith;
}

pub keys-preserved : goal.keys-preserved
keys-preserved c =
    let k = c.args.context.now.known.now in
    let ds = declarations_of c.args.context.now.declared.now in
    let f = c.in_ok-checked.checked in
    let i = c.keys.place in
    let es = map entry_read (take i c.args.read.now) in
    let new = c.check_key.new.before in
    let long : length es ≡ i = length-map (take i c.args.read.now) entry_read
    ∙ length-take-le i c.args.read.now (omega arith) in
    let much = c.is_too_much.result in
    let F : ReadKey → Type 0 = λ r. IsRead r → length es ≡ i → AreNoted es c.keys.before
    → AreMembers es c.keys.before → (IsTrue much → AreTooLong es r.text.now) → (ns : List ℕ)
    → AreCovered k es ns c.keys.before
    → IsFound k ds es ns (entry_read r) (applicable_codes f) f.answers.earlier f.answers.is_open
    × AreNoted (es ++ entry_read r ∷ []) new
    × (AreMembers (es ++ entry_read r ∷ []) new
    × AreCovered k (es ++ entry_read r ∷ []) (ns ++ left_open i f.answers.is_open) new) in
    let next = subst F c.index-read-place.is (λ r. c.in_ok-checked.ensures.checked r es) in
    let known : IsKnown ds (get_or c.args.read.now i c.index-read-place.result) f.key =
    subst (λ r. IsKnown ds r f.key) c.index-read-place.is c.in_ok-checked.ensures.known in
    let entries = next_entries c.args.read.now i c.index-read-place.result c.keys-test.true in
    let r = get_or c.args.read.now i c.index-read-place.result in
    let counted : c.bytes_with-bytes.result ≤ c.keys.bytes + length r.text.now =
    subst (λ z. c.bytes_with-bytes.result ≤ c.keys.bytes + length z.text.now) c.index-read-place.is
    c.bytes_with-bytes.ensures in
    let now = λ (all : All IsRead c.args.read.now).
    next (all i c.index-read-place.result c.keys-test.true) long (c.keys.invariant.noted_keys all)
    (c.keys.invariant.members all)
    (too_long es r.text.now much i c.keys.bytes c.bytes_with-bytes.result long c.keys.invariant.bytes counted
    c.is_too_much.ensures) c.keys.undecided.items (c.keys.invariant.covered all) in
    let listed = c.in_ok-note_undecided.ensures
    ∙ ap (λ n. c.keys.undecided.items ++ left_open n f.answers.is_open) c.in_ok-checked.ensures.place in
    record {
      findings = λ all.
          one_more c.args.read.now i c.index-read-place.result c.keys-test.true c.earlier_key-other.result.now k ds
          f.key (applicable_codes f) f.answers.earlier f.answers.is_open _ _ _ _ (c.keys.invariant.findings all)
          (now all).0
          c.earlier_key-other.ensures
          (record {
            read = get_or c.args.read.now i c.index-read-place.result;
            entry = refl;
            spells = all i c.index-read-place.result c.keys-test.true;
            known = known;
          })
          (subst (λ n. AddsFindings (told_marks n (applicable_codes f)) c.earlier_key-other.result.now
          f.key c.keys.findings.items c.add_findings.new.findings.items) c.in_ok-checked.ensures.place
          c.in_ok-add_findings.ensures)
          listed;
      noted_keys = λ all. subst (λ fs. AreNoted fs new) entries (now all).1;
      members = λ all. subst (λ fs. AreMembers fs new) entries (now all).2.0;
      covered = λ all.
          subst (λ fs. AreCovered k fs c.note_undecided.new.undecided.items new) entries
          (subst
          (λ ns. AreCovered k (es ++ entry_read (get_or c.args.read.now i c.index-read-place.result) ∷ []) ns new)
          (sym listed) (now all).2.1);
      bytes = subst (λ fs. c.bytes_with-bytes.result ≤ bytes_of fs) entries
          (bytes_more es (entry_read r) c.keys.bytes c.bytes_with-bytes.result c.keys.invariant.bytes counted);
    }
