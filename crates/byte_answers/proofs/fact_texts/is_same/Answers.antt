use Rattle.std.proofs.Common.{◌≡◌, ◌∙◌, sym, ap, true, false}
use Rattle.std.specs.Prelude.{bytes_eq, string_bytes}
use Rattle.std.specs.Cmp.Lexicographic.{texts_ties}
use Rattle.cargo_platform.specs.Trees.{Name, name_of}
use Rattle.cargo_platform.proofs.Evaluating.{other_key, same_key}
use Rattle.byte_answers.proofs.fact_texts.is_same.Goals as goal

pub returns-in-Name-fact : goal.returns-in-Name-fact
returns-in-Name-fact c =
    rw (c.in-Name.is, c.in-Name-fact.is)
    (c.eq.ensures ∙ ap (λ z. bytes_eq c.in-Name-fact.own.now z) c.as_str.ensures ∙ texts_ties c.in-Name-fact.own.now _)

pub returns-then-eq : goal.returns-then-eq
returns-then-eq c =
    let j : Name = record { raw = c.in-Pair-fact.field-0; name = c.in-Pair-fact.own.now } in
    let yes : bytes_eq c.in-Pair-fact.own.now (string_bytes c.in-KeyPair.key.name) ≡ true =
    ap (λ z. bytes_eq c.in-Pair-fact.own.now z) (sym c.as_str-in-Pair-fact.ensures)
    ∙ sym c.eq-in-Pair-fact.ensures ∙ c.if-eq.true in
    rw (c.in-KeyPair.is, c.in-Pair-fact.is)
    (c.eq-then-eq.ensures ∙ ap (λ z. bytes_eq c.in-Pair-fact.with.now z) c.as_str-then-eq.ensures.value
    ∙ same_key j (name_of c.in-KeyPair.key) c.in-Pair-fact.with.now (string_bytes c.in-KeyPair.value) yes)

pub returns-else-eq : goal.returns-else-eq
returns-else-eq c =
    let j : Name = record { raw = c.in-Pair-fact.field-0; name = c.in-Pair-fact.own.now } in
    let no : bytes_eq c.in-Pair-fact.own.now (string_bytes c.in-KeyPair.key.name) ≡ false =
    ap (λ z. bytes_eq c.in-Pair-fact.own.now z) (sym c.as_str-in-Pair-fact.ensures)
    ∙ sym c.eq-in-Pair-fact.ensures ∙ c.if-eq.false in
    rw (c.in-KeyPair.is, c.in-Pair-fact.is)
    (c.if-eq.false
    ∙ sym (other_key j (name_of c.in-KeyPair.key) c.in-Pair-fact.with.now (string_bytes c.in-KeyPair.value) no))
