use Rattle.std.proofs.Common.{ℕ, ◌<◌, length, sym, ◌∙◌, subst, arith}
use Rattle.cargo_metadata.specs.Ids.{package_ids}
use Rattle.cargo_metadata.specs.Indexes.{index_at, IsIndex}
use Rattle.cargo_metadata.proofs.Indexing.{id_read, inside_ids, ended, index_more, index_repeat, index_none}
use Rattle.cargo_metadata.proofs.graphs.linking.package_indexes.Goals as goal

pub packages-init : goal.packages-init
packages-init c =
    index_none (index_at c.new-indexes.result) (package_ids c.args.metadata.now.packages.items) c.new-indexes.ensures

pub returns-in-Ok-Some : goal.returns-in-Ok-Some
returns-in-Ok-Some c =
    let packages = c.args.metadata.now.packages in
    let i = c.packages.i in
    let below : i < length packages.items = omega (arith, c.packages-test.true, c.len-i-end.ensures, packages.ok.0) in
    index_repeat (index_at c.packages.indexes) (package_ids packages.items) c.in-Ok-Some.first i
    c.index.result.now.id.now
    (inside_ids (λ p. p.id.now) packages.items i below)
    (id_read (λ p. p.id.now) packages.items i c.index.result.now below c.index.ensures)
    (sym c.in-Ok-Some.ensures.earlier ∙ c.in-Ok-Some.field-0-is) c.packages.invariant

pub packages-preserved : goal.packages-preserved
packages-preserved c =
    let packages = c.args.metadata.now.packages in
    let i = c.packages.i in
    let below : i < length packages.items = omega (arith, c.packages-test.true, c.len-i-end.ensures, packages.ok.0) in
    index_more (index_at c.packages.indexes) (index_at c.add.new.self) (package_ids packages.items) i
    c.index.result.now.id.now (id_read (λ p. p.id.now) packages.items i c.index.result.now below c.index.ensures)
    (sym c.in-Ok-None.ensures.earlier ∙ c.in-Ok-None.field-0-is) c.in-Ok-None.ensures.added c.packages.invariant

pub returns : goal.returns
returns c =
    let packages = c.args.metadata.now.packages in
    subst (λ (n : ℕ). IsIndex (index_at c.packages.indexes) (package_ids packages.items) n)
    (ended (λ p. p.id.now) packages.items c.packages.i c.len-i-end.result c.packages.auto.i-end c.packages-test.false
    (c.len-i-end.ensures ∙ packages.ok.0))
    c.packages.invariant
