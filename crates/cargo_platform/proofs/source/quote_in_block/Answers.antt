use Rattle.std.proofs.Common.{ℕ, refl}
use Rattle.std.proofs.lemmas.Simd.{zip2_splat, length-chunk}
use lib.Lanes.{chunk}
use Rattle.cargo_platform.specs.Inside.Looking.{is_no_quote}
use Rattle.cargo_platform.proofs.Lanes.{all_pass, first_fails, first_is_among}
use Rattle.cargo_platform.proofs.source.quote_in_block.Goals as goal

pub returns-then-quotes-eq0-clause-none : goal.returns-then-quotes-eq0-clause-none
returns-then-quotes-eq0-clause-none c =
    let v = chunk c.args.at 16 c.args.bytes.now in
    let long = length-chunk c.args.at 16 c.args.bytes.now c.requires in
    all_pass is_no_quote _ refl c.args.bytes.now _ c.args.at c.requires c.type_inv.bytes
    (zip2_splat {Y = ℕ} _ v 16 34 long) c.if-quotes-eq0.true

pub returns-clause-some : goal.returns-clause-some
returns-clause-some c =
    let v = chunk c.args.at 16 c.args.bytes.now in
    let long = length-chunk c.args.at 16 c.args.bytes.now c.requires in
    first_fails is_no_quote _ refl c.args.bytes.now _ c.args.at c.requires c.type_inv.bytes
    (zip2_splat {Y = ℕ} _ v 16 34 long) c.if-quotes-eq0.false

pub returns-clause-among : goal.returns-clause-among
returns-clause-among c =
    let v = chunk c.args.at 16 c.args.bytes.now in
    let long = length-chunk c.args.at 16 c.args.bytes.now c.requires in
    first_is_among is_no_quote _ refl c.args.bytes.now _ c.args.at c.requires c.type_inv.bytes
    (zip2_splat {Y = ℕ} _ v 16 34 long) c.if-quotes-eq0.false
