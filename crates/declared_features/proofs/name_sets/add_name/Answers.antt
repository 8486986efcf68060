use Rattle.std.proofs.Common.{◌≡◌, ◌<◌, ◌≤◌, ◌+◌, ◌∙◌, ◌⊎◌, inl, inr, ℕ, List, Option, Some, None, Bor, Vec, Global}
use Rattle.std.proofs.Common.{Bool, true, false}
use Rattle.std.proofs.Common.{length, take, get_or, sym, refl, ap, subst, arith, map}
use Rattle.std.specs.Option.{option_copied}
use Rattle.declared_features.specs.NameSets.{HasName, AddsNames}
use Rattle.declared_features.proofs.Growing.{grown_as, names_inserted}
use Rattle.declared_features.proofs.Collecting.{some_same}
use Rattle.declared_features.proofs.name_sets.add_name.Goals as goal

pub returns-in_ok-_is_new-in-Some : goal.returns-in_ok-_is_new-in-Some
returns-in_ok-_is_new-in-Some c =
    let n = c.in-Some.name in
    let whole : option_copied c.args.name ≡ Some n.now =
    ap (λ (o : Option (Bor (List ℕ))). option_copied o) c.in-Some.is in
    grown_as (HasName c.args.names.now) (HasName c.insert.new.self) (λ q. n.now ≡ q)
    (λ q. option_copied c.args.name ≡ Some q)
    (names_inserted c.args.names.now c.insert.new.self n c.in_ok-_is_new-in-Some.ensures.updates)
    (λ q is. whole ∙ ap (λ (s : List ℕ). Some s) is) (λ q is. some_same n.now q (sym whole ∙ is))
