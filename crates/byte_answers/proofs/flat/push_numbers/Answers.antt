use Rattle.std.proofs.Common.{◌∙◌, ap, ◌++◌, ◌∷◌, [], w64}
use Rattle.std.specs.Int.{to_le_bytes}
use Rattle.byte_answers.specs.Flat.{numbers}
use Rattle.byte_answers.proofs.Flats.{pushed}
use Rattle.byte_answers.proofs.flat.push_numbers.Goals as goal

pub returns : goal.returns
unfolding numbers
returns c =
    pushed c.args.out.now.items (to_le_bytes w64 c.args.a) (to_le_bytes w64 c.args.b) (c.args.tag ∷ [])
    c.extend_from_slice.new.self.items c.extend_from_slice-2.new.self.items c.push.new.self.items
    (c.in_ok-extend_from_slice.ensures.items ∙ ap (λ z. c.args.out.now.items ++ z) c.to_le_bytes.ensures)
    (c.in_ok-extend_from_slice-2.ensures.items
    ∙ ap (λ z. c.extend_from_slice.new.self.items ++ z) c.to_le_bytes-2.ensures)
    c.in_ok-push.ensures.items
