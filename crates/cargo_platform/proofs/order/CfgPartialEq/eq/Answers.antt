use Rattle.std.proofs.Common.{◌≡◌, refl, sym, ◌∙◌, Bool, true, false, ◌&&◌, string_bytes}
use Rattle.std.specs.Ordering.{is_eq}
use Rattle.std.specs.Cmp.{both_tied}
use Rattle.std.specs.Cmp.Lexicographic.{texts_ties}
use Rattle.cargo_platform.specs.Trees.{name_of}
use Rattle.cargo_platform.specs.Key.{name_cmp, text_cmp}
use Rattle.cargo_platform.proofs.order.CfgPartialEq.eq.Goals as goal

first_of_true : (b : Bool) → b ≡ (b && true)
first_of_true true = refl
first_of_true false = refl

none_of_false : (b : Bool) → false ≡ (b && false)
none_of_false true = refl
none_of_false false = refl

-- equal values leave it to the keys
pub returns-then-eq : goal.returns-then-eq
returns-then-eq c =
    let w = c.in-KeyPair-KeyPair in
    let keys = name_cmp (name_of w.j) (name_of w.k) in
    let texts = text_cmp (string_bytes w.a) (string_bytes w.b) in
    let values = sym c.if-eq.true ∙ c.eq-in-KeyPair-KeyPair.ensures
    ∙ texts_ties (string_bytes w.a) (string_bytes w.b) in
    rw (w.is-0, w.is-1)
    (first_of_true c.eq-then-eq.result ∙ both_tied c.eq-then-eq.result true keys texts c.eq-then-eq.ensures values)

pub returns-else-eq : goal.returns-else-eq
returns-else-eq c =
    let w = c.in-KeyPair-KeyPair in
    let keys = name_cmp (name_of w.j) (name_of w.k) in
    let texts = text_cmp (string_bytes w.a) (string_bytes w.b) in
    let values = sym c.if-eq.false ∙ c.eq-in-KeyPair-KeyPair.ensures
    ∙ texts_ties (string_bytes w.a) (string_bytes w.b) in
    rw (w.is-0, w.is-1)
    (c.if-eq.false ∙ none_of_false (is_eq keys) ∙ both_tied (is_eq keys) false keys texts refl values)
