use Rattle.std.proofs.Common.{◌≡◌, ◌<◌, ◌≤◌, ◌+◌, ◌∙◌, ◌⊎◌, inl, inr, ℕ, List, Option, Some, None, Bor, Vec, Global}
use Rattle.std.proofs.Common.{Bool, true, false}
use Rattle.std.proofs.Common.{length, take, get_or, sym, refl, ap, subst, arith, map}
use Rattle.std.specs.Option.{option_copied}
use Rattle.declared_features.specs.Inside.Keys.{HasKey, IsKeyOf}
use Rattle.declared_features.proofs.Growing.{grown_as}
use Rattle.declared_features.proofs.Collecting.{some_same}
use Rattle.declared_features.proofs.EdgeKeys.{IsSame, keys_inserted}
use Rattle.declared_features.proofs.missing_edges.add_key.Goals as goal

pub returns : goal.returns
returns c =
    let graph = c.args.graph.now in
    let row = c.args.row.now in
    let condition = c.in-Some.condition in
    let is : option_copied row.kind.condition ≡ Some condition.now =
    ap (λ (o : Option (Bor (List ℕ))). option_copied o) c.in-Some.is in
    grown_as (HasKey c.args.keys.now) (HasKey c.insert.new.self) (IsSame c.name.result condition row.kind.kind)
    (IsKeyOf graph row)
    (keys_inserted c.args.keys.now c.insert.new.self c.name.result condition row.kind.kind c.number_of.result
    c.number_of.ensures c.in_ok-_is_new.ensures.updates)
    (λ key same. record {
      to = sym c.name.ensures ∙ same.0.0;
      condition = is ∙ ap (λ (s : List ℕ). Some s) same.0.1;
      kind = same.1;
    })
    (λ key its.
    ((c.name.ensures ∙ its.to, some_same condition.now key.0.1 (sym is ∙ its.condition)), its.kind))
