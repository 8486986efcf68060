use Rattle.std.proofs.Common.{◌≡◌, ◌≢◌, ◌<◌, ◌∙◌, ◌+◌, ◌++◌, [], ◌∷◌, ℕ, List, sym, ap, subst, refl, map, length, arith}
use Rattle.std.proofs.Common.{rules, Bor}
use Rattle.std.proofs.lemmas.Grind.{common_steps}
use Rattle.std.proofs.lemmas.List.{map-append, length-map}
use Rattle.cargo_platform.specs.Trees.{value_of}
use Rattle.cargo_platform.specs.Lines.{lines_of}
use Rattle.cargo_platform.specs.declared.error.ParseError.{ParseError}
use Rattle.target_tables.specs.Rows.{Row, row_of, name_at, HasNoRow}
use Rattle.target_tables.specs.Blocks.{AreRead, IsNoFactBehind}
use Rattle.target_tables.specs.Refusals.{IsNoFact}
use Rattle.target_tables.specs.declared.table.TargetRow.{TargetRow}
use Rattle.target_tables.specs.declared.table.TargetTable.{TargetTable}
use Rattle.target_tables.proofs.Growing.{begun, grown, repeated, refused, all_read, passed_on, found_at, none_at}
use Rattle.target_tables.proofs.reading.read_table.Goals as goal

pub blocks-2-init : goal.blocks-2-init
blocks-2-init c =
    let text = c.args.text.now in
    let empty = c.skip_blank_lines-passed.result.1 in
    let rest = c.skip_blank_lines-passed.result.0.now in
    record {
      read =
          subst (λ (xs : List TargetRow). AreRead (lines_of text) (map row_of xs) empty (lines_of rest))
          (sym c.new-rows.ensures.items)
          (begun (lines_of text) empty (lines_of rest) c.skip_blank_lines-passed.ensures.lines);
      within = c.skip_blank_lines-passed.ensures.length;
      text = c.skip_blank_lines-passed.ensures.utf8;
    }

pub returns-then-is_some-clause-twice : goal.returns-then-is_some-clause-twice
returns-then-is_some-clause-twice c =
    let rows = c.blocks-2.rows.items in
    let name = c.first_line.result.0.now in
    let behind = lines_of c.first_line.result.1.now in
    let some : c.blocks-2.rest.now ≢ [] = search (rules, common_steps) in
    let value : c.deref.result.now ≡ c.blocks-2.rows.items = cc (c.deref.ensures.value) in
    let f =
    found_at c.place_of.result (λ (k : ℕ). name_at (map row_of c.deref.result.now) k ≡ name)
    (λ (k : ℕ). k < length c.deref.result.now) (sym c.is_some.ensures ∙ c.if-is_some.true) c.place_of.ensures.found
    c.place_of.ensures.within in
    let same = subst (λ (xs : List TargetRow). name_at (map row_of xs) f.0 ≡ name) value f.1 in
    let below : f.0 < length (map row_of c.blocks-2.rows.items) =
    omega (arith, f.2, ap length value, length-map c.blocks-2.rows.items row_of) in
    repeated (lines_of c.args.text.now) (map row_of rows) c.blocks-2.passed (lines_of c.blocks-2.rest.now) name behind
    f.0 (c.blocks-2.passed + 1) c.blocks-2.invariant.read (c.first_line.ensures.lines some) below same refl

pub returns-in_err-row-clause-no_fact : goal.returns-in_err-row-clause-no_fact
returns-in_err-row-clause-no_fact c =
    let ls = lines_of c.args.text.now in
    let rows = map row_of c.blocks-2.rows.items in
    let name = c.first_line.result.0.now in
    let behind = lines_of c.first_line.result.1.now in
    let some : c.blocks-2.rest.now ≢ [] = search (rules, common_steps) in
    let value : c.deref.result.now ≡ c.blocks-2.rows.items = cc (c.deref.ensures.value) in
    let none =
    subst (λ (xs : List TargetRow). HasNoRow (map row_of xs) name) value
    (none_at c.place_of.result (HasNoRow (map row_of c.deref.result.now) name)
    (sym c.is_some.ensures ∙ c.if-is_some.false)
    c.place_of.ensures.none) in
    passed_on (TargetRow × Bor (List ℕ)) TargetTable
    (λ (n : ℕ) (e : ParseError). IsNoFactBehind behind (c.blocks-2.passed + 1) n e)
    (λ (n : ℕ) (e : ParseError). IsNoFact ls n e) c.in_err-row.field-0.0 _ c.from_residual.ensures.1
    (λ n e h.
    refused ls rows c.blocks-2.passed (lines_of c.blocks-2.rest.now) name behind (c.blocks-2.passed + 1) n e
    c.blocks-2.invariant.read (c.first_line.ensures.lines some) none refl h) c.in_err-row.ensures.refused

pub blocks-2-preserved : goal.blocks-2-preserved
blocks-2-preserved c =
    let ls = lines_of c.args.text.now in
    let rows = map row_of c.blocks-2.rows.items in
    let row = c.in_ok-row.row in
    let name = c.first_line.result.0.now in
    let behind = lines_of c.first_line.result.1.now in
    let next = c.skip_blank_lines-empty.result.0.now in
    let empty = c.skip_blank_lines-empty.result.1 in
    let some : c.blocks-2.rest.now ≢ [] = search (rules, common_steps) in
    let value : c.deref.result.now ≡ c.blocks-2.rows.items = cc (c.deref.ensures.value) in
    let named = c.in_ok-row.ensures.name in
    let none =
    subst (λ (xs : List TargetRow). HasNoRow (map row_of xs) name) value
    (none_at c.place_of.result (HasNoRow (map row_of c.deref.result.now) name)
    (sym c.is_some.ensures ∙ c.if-is_some.false)
    c.place_of.ensures.none) in
    let is = c.first_line.ensures.lines some ∙ ap (λ z. z ∷ behind) (sym named) in
    let items : map row_of c.push.new.self.items ≡ map row_of c.blocks-2.rows.items ++ row_of c.in_ok-row.row ∷ [] =
    ap (map row_of) (rw c.if-is_err.ensures.negation at c.push.ensures.items)
    ∙ map-append row_of c.blocks-2.rows.items (c.in_ok-row.row ∷ []) in
    let n = c.blocks-2.passed + 1 + c.len-passed.result + empty in
    record {
      read =
          subst (λ (xs : List Row). AreRead ls xs n (lines_of next)) (sym items)
          (grown ls rows c.blocks-2.passed (lines_of c.blocks-2.rest.now) (row_of row) behind
          (lines_of c.in_ok-row.behind.now) empty (lines_of next) n c.blocks-2.invariant.read is c.in_ok-row.ensures.row
          c.skip_blank_lines-empty.ensures.lines (subst (λ z. HasNoRow rows z) (sym named) none)
          (omega (arith, length-map c.in_ok-row.row.facts.items value_of)));
      within =
          omega (
            arith,
            length-map c.in_ok-row.row.facts.items value_of,
            c.blocks-2.invariant.within,
            c.first_line.ensures.ended some,
            c.in_ok-row.ensures.length,
            c.skip_blank_lines-empty.ensures.length,
          );
      text = c.skip_blank_lines-empty.ensures.utf8;
    }

pub returns-clause-rows : goal.returns-clause-rows
returns-clause-rows c =
    let empty : c.blocks-2.rest.now ≡ [] = search (rules, common_steps) in
    all_read (lines_of c.args.text.now) (map row_of c.blocks-2.rows.items) c.blocks-2.passed
    (lines_of c.blocks-2.rest.now) c.blocks-2.invariant.read (ap lines_of empty)
