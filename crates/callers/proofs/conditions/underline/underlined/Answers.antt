use Rattle.std.proofs.Common.{◌≡◌, sym, subst, ℕ, List, Option, Some, None, String, inl, inr}
use Rattle.std.proofs.lemmas.Result.{IfOk-weaker}
use Rattle.std.specs.declared.alloc.Global.{Global}
use Rattle.std.specs.declared.ops.Range.{Range}
use Rattle.cargo_platform.specs.Errors.{orig_of, fault_in, span_in}
use Rattle.cargo_platform.specs.Faults.{Fault}
use Rattle.cargo_platform.specs.Platforms.{IsRefusedCondition, IsRefusedConditionAt}
use Rattle.cargo_platform.specs.Snippets.{IsSnippet}
use Rattle.cargo_platform.specs.KeySpans.{IsSnippetOfKey, IsFoundInKey}
use Rattle.callers.specs.Underline.{IsUnderlined}
use Rattle.callers.proofs.conditions.underline.underlined.Goals as goal

-- a reader's error has a span, and that is in the key
shown : (key orig : List ℕ) (fault : Fault) (span : Option (Range ℕ)) (lines : Option (String Global))
    → ((at : Range ℕ) (found : Option (Range ℕ)) → IsFoundInKey key orig fault at found)
    → IsRefusedCondition key orig fault → IsRefusedConditionAt key orig fault span
    → IsSnippetOfKey key orig fault span lines → IsUnderlined key lines
shown key orig fault None lines law why (inl a) snippet = absurd (let no = a.1.1 in cc)
shown key orig fault None lines law why (inr a) snippet = absurd (let no = a.3.2 in cc)
shown key orig fault (Some span) lines law why refused snippet =
    let there = law span snippet.0 refused snippet.1 in
    let two = subst (λ z. IsSnippet key z fault lines) there.1 snippet.2 there.2 in
    subst (IsUnderlined key) (sym two.1) (orig, fault, there.0, why, there.2, two.2)

pub returns-in-Err-Parse : goal.returns-in-Err-Parse
returns-in-Err-Parse c =
    let key = c.args.key.now in
    let e = c.in-Err-Parse.error in
    let read = rw c.in-Err-Parse.field-0-is at c.in-Err-Parse.ensures in
    IfOk-weaker c.snippet_in.result _ (λ lines. IsUnderlined key lines)
    (λ lines snippet. shown key (orig_of e) (fault_in e) (span_in e) lines
    (λ at found. c.faults_are_in_keys.ensures key (orig_of e) (fault_in e) at found c.utf8.key)
    read.fault read.span snippet)
    c.snippet_in.ensures
