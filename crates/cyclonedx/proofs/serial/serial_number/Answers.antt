use Rattle.std.proofs.Common.{◌≡◌, IfOk, string_bytes, ap, subst, ◌∙◌, ℕ, List}
use Rattle.uuid.specs.Text.{urn_text, lower}
use Rattle.cyclonedx.specs.Serials.{name_based}
use Rattle.cyclonedx.specs.declared.serial.TheConstants.{NAME_SPACE}
use Rattle.cyclonedx.proofs.serial.serial_number.Goals as goal

pub returns : goal.returns
returns c =
    let content = c.args.content.now in
    let same : name_based c.from_bytes.result c.as_bytes.result.now ≡ name_based NAME_SPACE content =
    ap (λ (space : List ℕ). name_based space c.as_bytes.result.now) c.from_bytes.ensures
    ∙ ap (name_based NAME_SPACE) c.as_bytes.ensures.value in
    subst (λ (text : List ℕ). IfOk c.from_str.result (λ it. string_bytes it ≡ text))
    (c.encode_lower.ensures.text ∙ ap (urn_text lower) (c.urn.ensures ∙ c.new_v5-id.ensures.value ∙ same))
    c.from_str.ensures.ok
