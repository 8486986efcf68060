use Rattle.std.proofs.Common.{refl, sym, ap, length, subst, ◌∙◌, ◌<◌, ◌≤◌, ◌+◌, ◌-◌, ◌*◌, ◌^◌, List, ℕ, None, arith}
use Rattle.std.proofs.lemmas.Str.{IsCharBoundary-start}
use Rattle.cargo_platform.specs.Reading.{characters_from}
use Rattle.cargo_platform.specs.Inside.Looking.{IsReadingAt}
use Rattle.cargo_platform.proofs.Looking.{chars_fit, looks_are_many}
use Rattle.cargo_platform.proofs.reader.Reader.new.Goals as goal

pub look-first-requires : goal.look-first-requires
look-first-requires c =
    rw c.new-source.ensures.text (IsCharBoundary-start c.args.text.now c.utf8.text)

pub past_spaces-place-requires-clause-begin : goal.past_spaces-place-requires-clause-begin
past_spaces-place-requires-clause-begin c =
    rw (ap (λ t. t.now) c.look-first.ensures.same ∙ c.new-source.ensures.text)
    (IsCharBoundary-start c.args.text.now c.utf8.text)

pub invariant_of-result : goal.invariant_of-result
invariant_of-result c =
    let look = rw c.new-source.ensures.text at c.look-first.ensures.cost in
    let first = ap (λ t. t.now) c.look-first.ensures.same ∙ c.new-source.ensures.text in
    let found = rw first at c.past_spaces-place.ensures in
    let fits : characters_from c.args.text.now 0 < 2 ^ 63 = omega (arith, chars_fit c.args.text.now c.utf8.text) in
    let looks = c.past_spaces-place.new.self.looks in
    let to = c.past_spaces-place.result.0 in
    let I : List ℕ → Type 0 = λ z. IsReadingAt z to c.past_spaces-place.result.1 None looks (length c.args.text.now) in
    let most : looks + 9 * characters_from c.args.text.now to ≤ 9 * characters_from c.args.text.now 0 + 1 =
    omega (arith, look.at_most, found.cost.at_most, c.new-source.ensures.looks) in
    let need = characters_from c.args.text.now 0 + 1 - characters_from c.args.text.now to in
    let many : need ≤ looks = looks_are_many looks need (omega (arith, fits)) (λ small.
    let still : c.look-first.new.self.looks < 2 ^ 64 - 1 = omega (arith, small, found.cost.grows) in
    omega (arith, look.at_least still, found.cost.at_least small, c.new-source.ensures.looks)) in
    subst I (sym (ap (λ t. t.now) c.past_spaces-place.ensures.same ∙ first)) (record {
      utf8 = c.utf8.text;
      short = fits;
      measured = refl;
      reached = found.boundary;
      sees = found.sees;
      past = found.past;
      found = tt;
      whole = λ _. omega (arith, many);
      at_least = omega (arith, many);
      seen_fault = tt;
      at_most = λ _. most;
      at_most_ever = omega (arith, most);
    })

pub returns-clause-first : goal.returns-clause-first
returns-clause-first c =
    let first = ap (λ t. t.now) c.look-first.ensures.same ∙ c.new-source.ensures.text in
    let found = rw first at c.past_spaces-place.ensures in
    found.spaces
