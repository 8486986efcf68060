use Rattle.std.proofs.Common.{◌≡◌, ◌∙◌, ap, subst, ℕ, List, Bool, Option, Some, cond}
use Rattle.std.specs.Borrow.{Bor}
use Rattle.std.proofs.lemmas.Map.Text.{is_eq-slice_cmp}
use Rattle.cargo_metadata.specs.Indexes.{index_at, indexed}
use Rattle.cargo_metadata.specs.declared.indexes.Indexes.{Indexes}
use Rattle.cargo_metadata.proofs.indexes.Indexes.add.Goals as goal

pub returns-clause-added : goal.returns-clause-added
returns-clause-added c = λ q.
    let id = c.args.id.now in
    let index = c.args.index in
    let old : Option ℕ = index_at c.args.self.now q in
    let new : Indexes = record { first = c.insert.new.self } in
    let text : Bor (List ℕ) = record c.args.id { now = q } in
    subst (λ (o : Option ℕ). index_at new q ≡ indexed o id index q old) c.in_default.ensures
    (c.in_ok-_none.ensures.updates.0 text
    ∙ ap (λ (b : Bool). cond b (Some index) old) (is_eq-slice_cmp id q))
