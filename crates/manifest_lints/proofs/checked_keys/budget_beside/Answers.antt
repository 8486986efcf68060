use Rattle.std.proofs.Common.{rules, ◌≡◌, false, inr}
use Rattle.manifest_lints.proofs.checked_keys.budget_beside.Goals as goal

pub returns-then-not-may_search : goal.returns-then-not-may_search
returns-then-not-may_search c =
    let no : c.may_search.result ≡ false = search rules in
    inr (inr (c.may_search.ensures no))
