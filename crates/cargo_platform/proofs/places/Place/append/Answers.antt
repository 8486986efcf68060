use Rattle.std.proofs.Common.{◌≡◌, ◌∙◌, ◌++◌, ap, length, string_bytes, arith}
use Rattle.cargo_platform.proofs.TextPlaces.{text_appended, texts_kept}
use Rattle.cargo_platform.proofs.places.Place.append.Goals as goal

pub returns-clause-text : goal.returns-clause-text
returns-clause-text c =
    let old = c.args.texts.now in
    let new = c.push_str.new.self in
    let bytes : string_bytes new ≡ string_bytes old ++ c.args.text.now = c.in_ok-push_str.ensures.bytes in
    let start : c.len-start.result ≡ length (string_bytes old) = omega (arith, c.len-start.ensures, old.bytes.ok.0) in
    let end : c.len.result ≡ length (string_bytes new) = omega (arith, c.len.ensures, new.bytes.ok.0) in
    rw bytes
    (text_appended (string_bytes old) c.args.text.now (record { start = c.len-start.result; end = c.len.result })
    c.utf8.text start (end ∙ ap (λ bs. length bs) bytes))

pub returns-clause-others : goal.returns-clause-others
returns-clause-others c =
    rw c.in_ok-push_str.ensures.bytes (texts_kept (string_bytes c.args.texts.now) c.args.text.now c.utf8.text)
