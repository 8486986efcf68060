use Rattle.std.proofs.Common.{◌≡◌, ℕ, ◌<◌, List, length, BTreeMap, String, Global, string_bytes, arith, sym, ◌∙◌}
use Rattle.std.proofs.Common.{inl, inr}
use Rattle.std.specs.BTreeMap.{IsEmpty}
use Rattle.lint_fixes.specs.Names.{IsRename}
use Rattle.lint_fixes.proofs.GivenNames.{renamed_by}
use Rattle.lint_fixes.proofs.fixing.renames_of.Goals as goal

none_in : {P : Type 0} (renames : BTreeMap (String Global) (String Global)) → IsEmpty renames → (name new : List ℕ)
    → IsRename renames name new → P
none_in renames empty name new h = absurd (cc (rw empty at h))

pub loop-fix-init : goal.loop-fix-init
loop-fix-init c = λ name new h. none_in c.new-renames.result c.new-renames.ensures.empty name new h

pub loop-fix-preserved : goal.loop-fix-preserved
loop-fix-preserved c = λ name new h.
    let from : string_bytes c.in_ok-from.from ≡ string_bytes c.fix-item.result.from = c.in_ok-from.ensures.cases in
    let to : string_bytes c.in_ok-to.to ≡ string_bytes c.fix-item.result.to = c.in_ok-to.ensures.cases in
    let within : c.loop-fix.fix-index < length c.args.fixes.now = omega arith in
    elim (renamed_by c.loop-fix.renames c.insert.new.self c.in_ok-from.from c.in_ok-to.to
    c.in_ok-insert.ensures.updates name new h) [
      | inl here ↦ (
        c.fix-item.result,
        (c.loop-fix.fix-index, within, sym c.fix-item.is),
        sym from ∙ here.0,
        sym to
            ∙ here.1,
      )
      | inr there ↦ c.loop-fix.invariant name new there
    ]

pub returns : goal.returns
returns c = c.loop-fix.invariant
