use Rattle.std.proofs.Common.{lit<, refl, ap, ◌∙◌, sym, List, ℕ, ◌∷◌}
use Rattle.std.proofs.lemmas.Str.Pattern.{strip_suffix_char}
use Rattle.declared_features.proofs.Spelling.{at_slash, with_slash, with_mark, before_mark}
use Rattle.declared_features.proofs.entries.entry_of.Goals as goal

pub returns-in-Some-strip_prefix : goal.returns-in-Some-strip_prefix
returns-in-Some-strip_prefix c =
    let unslashed = rw c.in_default.is at (at_slash c.args.text.now c.split_once.result c.split_once.ensures.cases) in
    let stripped = c.in-Some-strip_prefix.ensures.cases in
    (stripped.1.1 ∙ ap (λ (s : List ℕ). 100 ∷ 101 ∷ 112 ∷ 58 ∷ s) (sym stripped.2), unslashed)

pub returns-in-None : goal.returns-in-None
returns-in-None c =
    let unslashed = rw c.in_default.is at (at_slash c.args.text.now c.split_once.result c.split_once.ensures.cases) in
    (refl, unslashed, λ b. c.in-None.ensures.cases b.0 b.1)

pub returns-in-Some-strip_suffix : goal.returns-in-Some-strip_suffix
returns-in-Some-strip_suffix c =
    let parts = rw c.in-Some.is at (at_slash c.args.text.now c.split_once.result c.split_once.ensures.cases) in
    let marked =
    rw c.in-Some-strip_suffix.is at
    (strip_suffix_char 63 c.in-Some.name.now c.strip_suffix.result c.strip_suffix.ensures.cases (lit< tt)) in (
      with_mark c.args.text.now c.in-Some.name.now c.in-Some-strip_suffix.name.now c.in-Some.feature.now parts.0 marked,
      before_mark c.in-Some.name.now c.in-Some-strip_suffix.name.now marked parts.1,
    )

pub returns-in-None-strip_suffix : goal.returns-in-None-strip_suffix
returns-in-None-strip_suffix c =
    let parts = rw c.in-Some.is at (at_slash c.args.text.now c.split_once.result c.split_once.ensures.cases) in
    let unmarked =
    rw c.in-None-strip_suffix.is at
    (strip_suffix_char 63 c.in-Some.name.now c.strip_suffix.result c.strip_suffix.ensures.cases (lit< tt)) in
    (with_slash c.args.text.now c.in-Some.name.now c.in-Some.feature.now parts.0, parts.1, λ e. unmarked e.0 e.1)
