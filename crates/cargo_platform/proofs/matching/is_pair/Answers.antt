use Rattle.std.proofs.Common.{◌≡◌, ◌∙◌, sym, ap, true, false}
use Rattle.std.specs.Prelude.{bytes_eq, string_bytes}
use Rattle.cargo_platform.specs.Trees.{Name, name_of}
use Rattle.cargo_platform.proofs.Evaluating.{other_key, same_key}
use Rattle.cargo_platform.proofs.matching.is_pair.Goals as goal

pub returns-then-eq : goal.returns-then-eq
returns-then-eq c =
    let k : Name = record { raw = false; name = c.args.key.now } in
    let keys : c.eq.result ≡ bytes_eq c.as_str.result.now c.args.key.now = c.eq.ensures in
    let yes : bytes_eq (string_bytes c.in-KeyPair.other.name) c.args.key.now ≡ true =
    ap (λ z. bytes_eq z c.args.key.now) (sym c.as_str.ensures.value) ∙ sym keys ∙ c.if-eq.true in
    rw c.in-KeyPair.is
    (c.eq-then-eq.ensures ∙ ap (λ z. bytes_eq z c.args.value.now) c.as_str-then-eq.ensures.value
    ∙ same_key (name_of c.in-KeyPair.other) k (string_bytes c.in-KeyPair.with) c.args.value.now yes)

pub returns-else-eq : goal.returns-else-eq
returns-else-eq c =
    let k : Name = record { raw = false; name = c.args.key.now } in
    let no : bytes_eq (string_bytes c.in-KeyPair.other.name) c.args.key.now ≡ false =
    ap (λ z. bytes_eq z c.args.key.now) (sym c.as_str.ensures.value) ∙ sym c.eq.ensures ∙ c.if-eq.false in
    rw c.in-KeyPair.is
    (c.if-eq.false ∙ sym (other_key (name_of c.in-KeyPair.other) k (string_bytes c.in-KeyPair.with) c.args.value.now
    no))
