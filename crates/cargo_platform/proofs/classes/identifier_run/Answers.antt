use Rattle.std.proofs.Common.{ℕ, leb, cond, bit_and, refl}
use Rattle.std.proofs.lemmas.Simd.{zip2_splat, zip2_of_maps, splat_is_map, length-chunk}
use lib.Lanes.{chunk}
use Rattle.cargo_platform.specs.Chars.{is_identifier_rest}
use Rattle.cargo_platform.proofs.Lanes.{all_pass, first_fails}
use Rattle.cargo_platform.proofs.classes.identifier_run.Goals as goal

-- the lanes agree with the class at each of the 256 bytes
pub returns-then-ends-eq0 : goal.returns-then-ends-eq0
returns-then-ends-eq0 c =
    let v = chunk c.args.at 16 c.args.bytes.now in
    let long = length-chunk c.args.at 16 c.args.bytes.now c.requires in
    let letters = zip2_of_maps (λ a b. cond (leb a b) 255 0) _ _ v (splat_is_map v 16 26 long)
    (zip2_of_maps _ _ _ v (zip2_splat {Y = ℕ} _ v 16 32 long) (splat_is_map v 16 97 long)) in
    let digits = zip2_of_maps (λ a b. cond (leb a b) 255 0) _ _ v (splat_is_map v 16 10 long)
    (zip2_splat {Y = ℕ} _ v 16 48 long) in
    all_pass is_identifier_rest _ refl c.args.bytes.now _ c.args.at c.requires c.type_inv.bytes
    (zip2_of_maps bit_and _ _ v (zip2_of_maps bit_and _ _ v letters digits) (zip2_splat {Y = ℕ} _ v 16 95 long))
    c.if-ends-eq0.true

pub returns : goal.returns
returns c =
    let v = chunk c.args.at 16 c.args.bytes.now in
    let long = length-chunk c.args.at 16 c.args.bytes.now c.requires in
    let letters = zip2_of_maps (λ a b. cond (leb a b) 255 0) _ _ v (splat_is_map v 16 26 long)
    (zip2_of_maps _ _ _ v (zip2_splat {Y = ℕ} _ v 16 32 long) (splat_is_map v 16 97 long)) in
    let digits = zip2_of_maps (λ a b. cond (leb a b) 255 0) _ _ v (splat_is_map v 16 10 long)
    (zip2_splat {Y = ℕ} _ v 16 48 long) in
    first_fails is_identifier_rest _ refl c.args.bytes.now _ c.args.at c.requires c.type_inv.bytes
    (zip2_of_maps bit_and _ _ v (zip2_of_maps bit_and _ _ v letters digits) (zip2_splat {Y = ℕ} _ v 16 95 long))
    c.if-ends-eq0.false
