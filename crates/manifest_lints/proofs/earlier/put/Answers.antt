use Rattle.std.proofs.Common.{◌∙◌, refl, sym, ap, subst, List, ℕ, [], ◌∷◌, ◌++◌, Some, None}
use Rattle.std.specs.Prelude.{IsSome}
use Rattle.manifest_lints.proofs.Classes.{puts}
use Rattle.manifest_lints.proofs.earlier.put.Goals as goal

pub returns-in-Some : goal.returns-in-Some
returns-in-Some c =
    puts c.args.classes.now (c.get_mut.follows.lender c.push.new.self) c.args.class c.args.place
    (Some c.in-Some.others.now) c.push.new.self (sym c.in-Some.ensures.value) c.in_ok-push.ensures.items
    ((c.get_mut.follows.holds c.push.new.self).3 (subst IsSome c.in-Some.ensures.value refl)).0

pub returns : goal.returns
returns c =
    puts c.args.classes.now c.insert.new.self c.args.class c.args.place None c.push-2.new.self
    (sym c.in_default.ensures.value)
    (c.in_ok-push-2.ensures.items ∙ ap (λ (ns : List ℕ). ns ++ c.args.place ∷ []) c.new-places.ensures.items)
    (rw c.get_mut.follows.holds-at-none at c.in_ok-_none.ensures.updates).0
