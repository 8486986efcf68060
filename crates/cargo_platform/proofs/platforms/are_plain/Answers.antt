use Rattle.std.proofs.Common.{ℕ, leb, cond, bit_and, refl}
use Rattle.std.proofs.lemmas.Simd.{zip2_splat, zip2_of_maps, splat_is_map, length-chunk}
use Rattle.std.proofs.lemmas.Bool.{eqb-true}
use lib.Lanes.{chunk}
use Rattle.cargo_platform.specs.Platforms.{is_plain_byte}
use Rattle.cargo_platform.proofs.Lanes.{all_pass}
use Rattle.cargo_platform.proofs.platforms.are_plain.Goals as goal

-- the lanes agree with the class at each of the 256 bytes
pub returns : goal.returns
returns c = λ none.
    let v = chunk c.args.at 16 c.args.bytes.now in
    let long = length-chunk c.args.at 16 c.args.bytes.now c.requires in
    let ge = λ (a b : ℕ). cond (leb a b) 255 0 in
    let letters = zip2_of_maps ge _ _ v (splat_is_map v 16 26 long)
    (zip2_of_maps _ _ _ v (zip2_splat {Y = ℕ} _ v 16 32 long) (splat_is_map v 16 97 long)) in
    let digits = zip2_of_maps ge _ _ v (splat_is_map v 16 10 long) (zip2_splat {Y = ℕ} _ v 16 48 long) in
    let marks = zip2_of_maps ge _ _ v (splat_is_map v 16 2 long) (zip2_splat {Y = ℕ} _ v 16 45 long) in
    let others = zip2_of_maps bit_and _ _ v (zip2_of_maps bit_and _ _ v letters digits) marks in
    (all_pass is_plain_byte _ refl c.args.bytes.now _ c.args.at c.requires c.type_inv.bytes
    (zip2_of_maps bit_and _ _ v others (zip2_splat {Y = ℕ} _ v 16 95 long)) (eqb-true _ _ none)).passes
