use Rattle.std.proofs.Common.{flat_map, chars, ap, ◌∙◌, ◌++◌, List, ℕ, encode_utf8_all}
use Rattle.html_pages.specs.Escaping.{escape}
use Rattle.html_pages.proofs.Written.{all_stand}
use Rattle.html_pages.proofs.escaping.escaped.Goals as goal

pub returns : goal.returns
returns c =
    let text = chars c.args.text.now in
    let more = encode_utf8_all (flat_map escape text) in (
      flat_map escape text,
      (rw c.in_ok-push_text.was at c.push_text.ensures) ∙ ap (λ (xs : List ℕ). xs ++ more) c.new-page.ensures.bytes,
      all_stand text,
    )
