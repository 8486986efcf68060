-- Keys that are visited, one after another, and none of them is nested too deep.
use Rattle.std.proofs.Common.{◌≡◌, ◌∙◌, sym, ap, subst, ℕ, ◌+◌, ◌<◌, ◌≤◌, List, [], ◌∷◌, map, take, length, get_or}
use Rattle.std.specs.List.{All}
use Rattle.std.proofs.lemmas.List.{take_all, take_more, map-append}
use Rattle.std.proofs.lemmas.List.Elements.{All-push}
use Rattle.input_limits.specs.Limits.{IsShallow}
use Rattle.manifests.specs.Entries.{entry_of}
use Rattle.manifests.specs.declared.tables.TargetKey.{TargetKey}
use Rattle.manifest_answers.specs.Deep.{IsShallowEntry}

pub one_more : (keys : List TargetKey) (i : ℕ) (key : TargetKey) → i < length keys → key ≡ get_or keys i key
    → All IsShallowEntry (map entry_of (take i keys)) → IsShallow key.key.now
    → All IsShallowEntry (map entry_of (take (i + 1) keys))
one_more keys i key within is before shallow =
    let x = get_or keys i key in
    let here : IsShallow x.key.now = subst (λ (k : TargetKey). IsShallow k.key.now) is shallow in
    subst (All IsShallowEntry)
    (sym (map-append entry_of (take i keys) (x ∷ [])) ∙ ap (map entry_of) (sym (take_more keys i key within)))
    (All-push IsShallowEntry (map entry_of (take i keys)) (entry_of x) before here)

pub all_gone_over : (keys : List TargetKey) (i : ℕ) → length keys ≤ i
    → All IsShallowEntry (map entry_of (take i keys)) → All IsShallowEntry (map entry_of keys)
all_gone_over keys i done before =
    subst (λ (ks : List TargetKey). All IsShallowEntry (map entry_of ks)) (take_all i keys done) before
