use Rattle.std.proofs.Common.{◌≡◌, ◌⊎◌, ℕ, ◌+◌, ◌<◌, ◌≤◌, List, Bor, length, take, sym, subst, arith}
use Rattle.std.specs.Prelude.{Contains}
use Rattle.std.proofs.lemmas.List.{take_all, length-take, length-map}
use Rattle.declared_features.specs.Entries.{IsEntry}
use Rattle.declared_features.specs.Requested.{IsRequestedText}
use Rattle.declared_features.specs.Inside.Names.{texts_in}
use Rattle.declared_features.proofs.Collecting.{texts_more}
use Rattle.declared_features.proofs.Matching.{matches_none, matches_as, matches_more}
use Rattle.declared_features.proofs.linking.RequestedFeatures.entries.Goals as goal

pub each-init : goal.each-init
each-init c =
    let texts = c.in_ok-texts.texts.items in
    matches_none (λ t. Contains (texts_in (take 0 texts)) t) IsEntry c.new-entries.result.items
    c.new-entries.ensures.items
    (λ t h.
    let below = h.1 in
    omega (arith, below, length-map (take 0 texts) (λ (t : Bor (List ℕ)). t.now), length-take 0 texts))

pub each-preserved : goal.each-preserved
each-preserved c =
    let texts = c.in_ok-texts.texts in
    let i = c.each.i in
    let text = c.index-text.result.now in
    let below : i < length texts.items = omega (arith, c.each-test.true, c.len-i-end.ensures, texts.ok.0) in
    let before = λ (t : List ℕ). Contains (texts_in (take i texts.items)) t in
    let more = texts_more texts.items i text below c.index-text.ensures in
    matches_as (λ t. before t ⊎ (text.now ≡ t)) (λ t. Contains (texts_in (take (i + 1) texts.items)) t) IsEntry
    c.push.new.self.items (λ t h. (more t).1 h) (λ t h. (more t).0 h)
    (matches_more before IsEntry c.each.entries.items c.push.new.self.items text.now c.entry_of.result
    c.in_ok-push.ensures.items c.entry_of.ensures c.each.invariant)

pub returns : goal.returns
returns c =
    let texts = c.in_ok-texts.texts in
    let i = c.each.i in
    let past : length texts.items ≤ i = omega (arith, c.each-test.false, c.len-i-end.ensures, texts.ok.0) in
    let whole : take i texts.items ≡ texts.items = take_all i texts.items past in
    matches_as (λ t. Contains (texts_in (take i texts.items)) t)
    (IsRequestedText c.args.self.now c.args.called.now c.args.node) IsEntry c.each.entries.items
    (λ t h. (c.in_ok-texts.ensures t).0 (subst (λ (l : List (Bor (List ℕ))). Contains (texts_in l) t) whole h))
    (λ t h. subst (λ (l : List (Bor (List ℕ))). Contains (texts_in l) t) (sym whole) ((c.in_ok-texts.ensures t).1 h))
    c.each.invariant
