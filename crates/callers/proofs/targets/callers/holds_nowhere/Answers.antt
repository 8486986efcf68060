use Rattle.std.proofs.Common.{◌∙◌, sym, true≢false}
use Rattle.std.specs.Prelude.{IsTrue}
use Rattle.known_targets.specs.Sets.{is_member}
use Rattle.callers.proofs.targets.callers.holds_nowhere.Goals as goal

pub returns-clause-exact : goal.returns-clause-exact
returns-clause-exact c = (
  λ nowhere k below. (c.in_ok-possibly_matching.ensures.exact k below).0 (c.is_empty.ensures.yes nowhere k below),
  λ never. c.is_empty.ensures.no (λ k below. (c.in_ok-possibly_matching.ensures.exact k below).1 (never k below)),
)

pub returns-clause-sound : goal.returns-clause-sound
returns-clause-sound c k s nowhere below same holds =
    let may : IsTrue (is_member c.in_ok-possibly_matching.field-0 k) =
    c.in_ok-possibly_matching.ensures.sound k s below same holds in
    absurd (true≢false (sym may ∙ c.is_empty.ensures.yes nowhere k below))
