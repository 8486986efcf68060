use Rattle.std.proofs.Common.{rules, ◌≡◌, ◌∙◌, sym, ap, true, if◌then◌else◌, [], ◌∷◌, codes, bytes_eq, string_bytes}
use Rattle.cargo_platform.specs.Trees.{value_of}
use Rattle.cargo_platform.specs.Warnings.{attribute_warning, unsupported_feature}
use Rattle.cargo_platform.proofs.WarningWalks.{pushed_warning}
use Rattle.cargo_platform.proofs.warnings.AttributesLint.check.Goals as goal

pub returns-in_ok-push-in-KeyPair-clause-ok : goal.returns-in_ok-push-in-KeyPair-clause-ok
returns-in_ok-push-in-KeyPair-clause-ok c =
    let feature : bytes_eq (string_bytes c.in-KeyPair.key.name) (codes "feature") ≡ true = search rules in
    pushed_warning c.args.warnings.now c.push-in-KeyPair.new.self c.in_ok-feature_text-in-KeyPair.field-0
    (attribute_warning (value_of c.args.c.now)) c.in_ok-push-in-KeyPair.ensures.items
    (ap (λ v. attribute_warning (value_of v)) c.in-KeyPair.is
    ∙ ap (λ b. if b then unsupported_feature ∷ [] else []) feature
    ∙ ap (λ s. s ∷ []) (sym c.in_ok-feature_text-in-KeyPair.ensures))
