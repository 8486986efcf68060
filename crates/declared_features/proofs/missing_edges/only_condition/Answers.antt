use Rattle.std.proofs.Common.{◌≡◌, List, ℕ, Option, Some, None, Bor, sym, ap, subst}
use Rattle.std.specs.Prelude.{All, Contains, slice_get}
use Rattle.std.specs.Option.{option_copied}
use Rattle.std.proofs.lemmas.Option.{slice_get_within, get_or_from_slice_get}
use Rattle.cargo_metadata.specs.declared.nodes.KindRow.{KindRow}
use Rattle.declared_features.proofs.Missing.{only_under, only_one}
use Rattle.declared_features.proofs.missing_edges.only_condition.Goals as goal

first_of : (rows : List KindRow) (row : KindRow) → slice_get rows 0 ≡ Some row → Contains rows row
first_of rows row there = (0, slice_get_within rows 0 row there, get_or_from_slice_get rows 0 row row there)

pub returns-then-are_all_under : goal.returns-then-are_all_under
returns-then-are_all_under c q =
    let edge = c.args.edge.now in
    let row = c.in_ok-first.field-0.now in
    let condition = c.in_ok-condition.condition.now in
    let there : Contains edge.kinds.items row =
    subst (λ (l : List KindRow). Contains l row) c.deref.ensures.value
    (first_of c.deref.result.now row (sym c.in_ok-first.ensures.value)) in
    let is : option_copied row.condition ≡ Some condition =
    ap (λ (o : Option (Bor (List ℕ))). option_copied o) c.in_ok-condition.was in
    only_under edge row condition q there is
    (subst (λ (l : List KindRow). All (λ row. option_copied row.condition ≡ Some condition) l) c.deref-2.ensures.value
    (c.are_all_under.ensures.0 c.if-are_all_under.true))

pub returns : goal.returns
returns c q =
    let edge = c.args.edge.now in
    let row = c.in_ok-first.field-0.now in
    let condition = c.in_ok-condition.condition.now in
    let there : Contains edge.kinds.items row =
    subst (λ (l : List KindRow). Contains l row) c.deref.ensures.value
    (first_of c.deref.result.now row (sym c.in_ok-first.ensures.value)) in
    let is : option_copied row.condition ≡ Some condition =
    ap (λ (o : Option (Bor (List ℕ))). option_copied o) c.in_ok-condition.was in (
      λ h. absurd (let e : None ≡ Some q = h in cc),
      λ has.
          let all : All (λ row. option_copied row.condition ≡ Some condition) c.deref-2.result.now =
          subst (λ (l : List KindRow). All (λ row. option_copied row.condition ≡ Some condition) l)
          (sym c.deref-2.ensures.value) (only_one edge row condition q there is has) in
          absurd (let found = c.are_all_under.ensures.1 all in let none = c.if-are_all_under.false in cc),
    )
