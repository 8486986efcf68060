use Rattle.std.proofs.Common.{◌≡◌, ◌∙◌, ◌+◌, refl, sym, ap, subst, false, IsTrue, inl, inr, [], ◌∷◌, ◌++◌}
use Rattle.std.specs.Borrow.{Bor}
use Rattle.cargo_platform.specs.declared.Platform.{Platform}
use Rattle.cargo_platform.specs.Trees.{condition_of}
use Rattle.cargo_platform.specs.Platforms.{IsConditionText}
use Rattle.manifests.specs.Declarations.{declarations_of}
use Rattle.manifest_lints_findings.specs.Known.{IsKnown, is_condition}
use Rattle.manifest_lints_findings.specs.Spells.{IsSpelledAs, entry_read}
use Rattle.manifest_lints.specs.Earlier.{same_place, equivalent_place, is_undecided}
use Rattle.manifest_lints.specs.Missed.{AreCovered}
use Rattle.manifest_lints.specs.Reports.{MayBeOpen, AreTooLong, left_open as listed}
use Rattle.manifest_lints.proofs.CheckedKeys.{found_spelled, found_unspelled, spells_nothing}
use Rattle.manifest_lints.specs.Sames.{IsFirst, IsSameAs}
use Rattle.manifest_lints.proofs.MoreSames.{one_noted, tells_same, tells_equivalent, names_rightly, none_more}
use Rattle.manifest_lints.proofs.MoreEquivalents.{one_member, equivalent_one, more_members}
use Rattle.manifest_lints.proofs.Missed.{misses_none, one_covered, nothing_covered, never_or_always}
use Rattle.manifest_lints.proofs.checked_keys.check_key.Goals as goal

pub returns-in_ok-answers-in-Condition-clause-checked : goal.returns-in_ok-answers-in-Condition-clause-checked
returns-in_ok-answers-in-Condition-clause-checked c = λ read es long are_noted members much ns covered.
    let k = c.args.context.now.known.now in
    let far = c.args.context.now.is_too_much in
    let ds = declarations_of c.args.context.now.declared.now in
    let r = c.args.read.now in
    let e = entry_read r in
    let at = c.args.read.ref_ptr in
    let p : Bor Platform = record { ref_ptr = (at.0, at.1 + 32 + 8); now = c.in-Condition.condition } in
    let text : IsConditionText e.0 (condition_of p.now) = subst (IsSpelledAs e.0) c.in-Condition.is read in
    let key = c.in_ok-key.key in
    let known = c.in_ok-key.ensures.known in
    let a = c.in_ok-answers-in-Condition.answers in
    let says = c.in_ok-answers-in-Condition.ensures in
    let old = c.args.before.now in
    let new = c.answers_of.new.before in
    let by_itself = subst (λ z. IsKnown ds z key) (sym known.read) known in
    let spelled = ap (λ z. z.spelled) known.read ∙ c.in-Condition.is in
    let place = long ∙ sym c.in_ok-key.ensures.place in
    let same : IsFirst (IsSameAs (condition_of p.now)) es (same_place a.earlier) =
    subst (IsFirst (IsSameAs (condition_of p.now)) es) (sym says.same) (are_noted p) in
    let alike = equivalent_one k es old (condition_of p.now) members (equivalent_place a.earlier) says.equivalent in
    let left_open = subst (λ z. IsTrue a.is_open → MayBeOpen k ds es z.text.now (condition_of p.now)) known.read
    (says.left_open by_itself spelled es members
    (subst (λ z. IsTrue far → AreTooLong es z.text.now) (sym known.read) much)) in
    let alone = says.alone by_itself spelled in
    let decided = λ (closed : a.is_open ≡ false) (undecided : IsTrue (is_undecided a.earlier)).
    never_or_always k (condition_of p.now) a.never a.always alone.never.0 alone.always.0
    (says.decided closed undecided) in (
      found_spelled k ds r key known es ns a p.now c.in-Condition.is alone
          (tells_same k es (condition_of p.now) a.earlier same)
          (tells_equivalent k es (condition_of p.now) a.earlier alike)
          (names_rightly k es (condition_of p.now) a.earlier same alike)
          (λ not_told closed. misses_none k es ns old (condition_of p.now) members covered a.earlier says.unlike same
          (decided closed) not_told)
          left_open read,
      one_noted es e old new _ p are_noted text place says.notes,
      (
        one_member es e old new _ p says.members members text place,
        subst (λ n. AreCovered k (es ++ e ∷ []) (ns ++ listed n a.is_open) new) c.in_ok-key.ensures.place
            (one_covered k es e ns old new _ p covered (says.classed covered.classed) says.members text a.earlier
            a.is_open place says.puts says.equivalent same decided),
      ),
    )

pub returns-in-ByCargo-clause-checked : goal.returns-in-ByCargo-clause-checked
returns-in-ByCargo-clause-checked c = λ read es long are_noted members much ns covered.
    let k = c.args.context.now.known.now in
    let ds = declarations_of c.args.context.now.declared.now in
    let r = c.args.read.now in
    let e = entry_read r in
    let none : is_condition r.spelled ≡ false = elim c.in-ByCargo.is [
      | inl marked ↦ ap is_condition marked.1
      | inr refused ↦ ap is_condition refused.1
    ] in (
      found_unspelled k ds r c.in_ok-key.key c.in_ok-key.ensures.known es ns r.spelled refl none read,
      none_more es e c.args.before.now are_noted (spells_nothing e.0 r.spelled none read),
      (
        more_members es e c.args.before.now members,
        nothing_covered k es e ns [] c.args.before.now covered (spells_nothing e.0 r.spelled none read),
      ),
    )
