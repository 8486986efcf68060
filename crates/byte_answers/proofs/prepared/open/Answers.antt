use Rattle.std.proofs.Common.{◌≡◌, sym, ap, ◌∙◌, ℕ, List, arith, length, ◌*◌, ◌/◌, ◌++◌}
use Rattle.std.proofs.lemmas.List.{length-append}
use Rattle.byte_answers.specs.Prepared.{index_of, with_numbers}
use Rattle.byte_answers.proofs.Openings.{format_of, parts_of, index_size, split_parts}
use Rattle.byte_answers.proofs.prepared.open.Goals as goal

pub returns-then-format-ne-FORMAT : goal.returns-then-format-ne-FORMAT
returns-then-format-ne-FORMAT c = λ texts filter es long is.
    c.if-format-ne-FORMAT.true (format_of texts (index_of es ++ filter) c.args.bytes.now c.in_ok-rest.rest.now
    c.in_ok-rest.format c.in_ok-rest.ensures.1 c.in_ok-rest.ensures.0 is).1

pub returns-then-rest-size : goal.returns-then-rest-size
returns-then-rest-size c = λ texts filter es long is.
    let p = parts_of texts (index_of es ++ filter) c.args.bytes.now c.in_ok-rest.rest.now c.in_ok-rest-2.rest.now
    c.in_ok-rest.format c.in_ok-rest-2.size (omega arith) c.in_ok-rest.ensures.1 c.in_ok-rest-2.ensures.1
    c.in_ok-rest.ensures.0 c.in_ok-rest-2.ensures.0 is in
    omega (arith, ap length p.0, length-append texts (index_of es ++ filter), p.1)

pub returns-in_err-index : goal.returns-in_err-index
returns-in_err-index c =
    rw c.from_residual-in_err-index.ensures (λ texts filter es long is.
    let p = parts_of texts (index_of es ++ filter) c.args.bytes.now c.in_ok-rest.rest.now c.in_ok-rest-2.rest.now
    c.in_ok-rest.format c.in_ok-rest-2.size (omega arith) c.in_ok-rest.ensures.1 c.in_ok-rest-2.ensures.1
    c.in_ok-rest.ensures.0 c.in_ok-rest-2.ensures.0 is in
    omega (
      arith,
      c.split_at.ensures.back_len,
      ap length p.0,
      length-append texts (index_of es ++ filter),
      length-append (index_of es) filter,
      p.1,
      long,
      c.in_err-index.ensures,
    ))

pub returns-then-index-ne0 : goal.returns-then-index-ne0
returns-then-index-ne0 c = λ texts filter es long is.
    let p = parts_of texts (index_of es ++ filter) c.args.bytes.now c.in_ok-rest.rest.now c.in_ok-rest-2.rest.now
    c.in_ok-rest.format c.in_ok-rest-2.size (omega arith) c.in_ok-rest.ensures.1 c.in_ok-rest-2.ensures.1
    c.in_ok-rest.ensures.0 c.in_ok-rest-2.ensures.0 is in
    let whole : length c.in_ok-index.index.now ≡ 24 * length es =
    omega (
      arith,
      c.split_at.ensures.back_len,
      ap length p.0,
      length-append texts (index_of es ++ filter),
      length-append (index_of es) filter,
      p.1,
      long,
      index_size es,
      ap length c.in_ok-index.ensures.0,
      length-append c.in_ok-index.index.now c.in_ok-index.filter.now,
      c.in_ok-index.ensures.1,
    ) in
    c.if-index-ne0.true (omega (arith, whole))

pub returns : goal.returns
returns c = (
  ap (λ (z : List ℕ). with_numbers c.split_at.result.0.now z) (sym c.in_ok-index.ensures.0)
      ∙ split_parts c.args.bytes.now c.in_ok-rest.rest.now c.in_ok-rest-2.rest.now c.split_at.result.0.now
      c.split_at.result.1.now c.in_ok-rest.format c.in_ok-rest-2.size c.in_ok-rest.ensures.0 c.in_ok-rest-2.ensures.0
      c.if-format-ne-FORMAT.false c.if-rest-size.false c.split_at.ensures.front c.split_at.ensures.back,
  c.in_ok-index.ensures.1,
  (length c.in_ok-index.index.now / 24, omega (arith, c.if-index-ne0.false)),
)
