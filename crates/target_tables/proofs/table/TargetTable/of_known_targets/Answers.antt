use Rattle.std.proofs.Common.{rules, ◌≡◌, ◌∙◌, ◌++◌, sym, ap, subst, map}
use Rattle.std.proofs.lemmas.Grind.{common_steps}
use Rattle.known_targets.specs.Sets.{left, members}
use Rattle.target_tables.specs.Rows.{row_of, AreDistinct}
use Rattle.target_tables.specs.Added.{known_row, known_rows}
use Rattle.target_tables.proofs.KnownRows.{all_rows, known_distinct}
use Rattle.target_tables.proofs.table.TargetTable.of_known_targets.Goals as goal

pub targets-init : goal.targets-init
targets-init c =
    let all : left c.into_iter-target-iterator.result ≡ members c.all.result = search (rules, common_steps) in
    ap (λ xs. map row_of xs ++ map known_row (left c.into_iter-target-iterator.result)) c.new-rows.ensures.items
    ∙ ap (map known_row) all ∙ all_rows c.all.result c.all.ensures

pub returns-clause-distinct : goal.returns-clause-distinct
returns-clause-distinct c =
    let rows : map row_of c.targets.rows.items ≡ known_rows = search (rules, common_steps) in
    subst AreDistinct (sym rows) known_distinct
