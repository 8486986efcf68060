use Rattle.std.proofs.Common.{rules, ◌∙◌, refl, sym, ap, Some}
use Rattle.cargo_platform.specs.declared.cfg.CfgExpr.{the_lemmas}
use Rattle.cargo_platform.specs.Trees.{condition_of}
use Rattle.partial_facts.specs.Conditions.{residual_condition}
use Rattle.partial_facts.specs.Partly.{names_of}
use Rattle.known_targets.specs.Open.{open_told}
use Rattle.known_targets.specs.Sets.{place}
use Rattle.known_targets.specs.Table.{target_name, target_facts}
use Rattle.manifest_lints.proofs.AtTargets.{says_never_at}
use Rattle.manifest_lints.proofs.at_targets.never_at.Goals as goal

pub returns : goal.returns
returns c =
    let k = place c.args.at.target in
    let open_keys = names_of c.args.at.open_keys.now in
    let p = condition_of c.args.platform.now in
    let left = c.in_ok-left.ensures in
    says_never_at open_keys p k (condition_of c.in_ok-left.left)
    (λ s same. left.sound (target_name k) s (sym c.name.ensures) same) c.args.truth c.name.result.now
    c.never_free.result
    (left.exact ∙ ap (λ n. residual_condition (Some n) (open_told (target_facts k) open_keys) p) c.name.ensures)
    left.open
    (c.never_free.ensures
    (record { facts = refl; complete = refl; single = refl; assumed = search (rules, the_lemmas) }))
