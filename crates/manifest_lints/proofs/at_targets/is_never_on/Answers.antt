use Rattle.std.proofs.Common.{rules, ◌≡◌, true, false}
use Rattle.cargo_platform.specs.Trees.{condition_of}
use Rattle.partial_facts.specs.Partly.{names_of}
use Rattle.known_targets.specs.Sets.{place}
use Rattle.manifest_lints.specs.AtTargets.{IsNeverAt}
use Rattle.manifest_lints.specs.Truths.{is_yes}
use Rattle.manifest_lints.proofs.AtTargets.{starts, next_one, ends, may_be, never_if_yes}
use Rattle.manifest_lints.proofs.at_targets.is_never_on.Goals as goal

pub targets-init : goal.targets-init
targets-init c =
    starts (IsNeverAt c.args.truth (names_of c.args.open_keys.now) (condition_of c.args.platform.now)) c.args.targets _
    (search rules)

pub returns-then-not-is_yes-clause-no : goal.returns-then-not-is_yes-clause-no
returns-then-not-is_yes-clause-no c = λ no.
    let open_keys = names_of c.args.open_keys.now in
    let p = condition_of c.args.platform.now in
    let h : is_yes c.in_ok-decided.decided ≡ false = search rules in
    may_be c.args.truth open_keys p c.args.targets (IsNeverAt c.args.truth open_keys p) c.targets.target-iterator
    c.next.new.self c.in-Some.target c.next.result c.in_ok-decided.decided c.targets.invariant c.in-Some.is
    c.next.ensures.steps c.in_ok-decided.ensures h

pub targets-preserved : goal.targets-preserved
targets-preserved c =
    let open_keys = names_of c.args.open_keys.now in
    let p = condition_of c.args.platform.now in
    let h : is_yes c.in_ok-decided.decided ≡ true = search rules in
    next_one (IsNeverAt c.args.truth open_keys p) c.args.targets c.targets.target-iterator c.next.new.self
    c.in-Some.target c.next.result c.targets.invariant c.in-Some.is c.next.ensures.steps
    (never_if_yes c.args.truth open_keys p (place c.in-Some.target) c.in_ok-decided.decided c.in_ok-decided.ensures h)

pub returns-clause-yes : goal.returns-clause-yes
returns-clause-yes c = λ yes.
    ends (IsNeverAt c.args.truth (names_of c.args.open_keys.now) (condition_of c.args.platform.now)) c.args.targets
    c.targets.target-iterator c.next.new.self c.next.result c.targets.invariant c.in-None.is c.next.ensures.steps
