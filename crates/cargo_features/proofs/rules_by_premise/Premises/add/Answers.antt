use Rattle.std.proofs.Common.{ℕ, ◌≡◌, ◌<◌, ◌∷◌, ◌++◌, [], List, length, get_or, set, map, sym, ◌∙◌, ap, subst, arith}
use Rattle.std.proofs.lemmas.List.{get_or-map, map-set, length-map}
use Rattle.cargo_features.specs.Inside.Listing.{place_lists, IsListed}
use Rattle.cargo_features.proofs.Listing.{more_at, listed_here, listed_still}
use Rattle.cargo_features.proofs.rules_by_premise.Premises.add.Goals as goal
use Rattle.cargo_features.proofs.rules_by_premise.Premises.add.Goals.{In_ok-push}

is_more : (c : In_ok-push) → map (λ places. places.items)
    (set c.args.self.now.lists.items c.args.fact c.push.new.self)
    ≡ more_at (place_lists c.args.self.now) c.args.fact c.args.rule
is_more c =
    let lists = c.args.self.now.lists.items in
    let fact = c.args.fact in
    let fits : fact < length lists = omega (arith, c.if-fact-len.true, c.len.ensures, c.args.self.now.lists.ok.0) in
    let old = get_or-map (λ places. places.items) lists fact c.index_mut.result.now [] fits in
    let is : c.push.new.self.items ≡ get_or (place_lists c.args.self.now) fact [] ++ c.args.rule ∷ [] =
    c.in_ok-push.ensures.items ∙ ap (λ (es : List ℕ). es ++ c.args.rule ∷ [])
    (ap (λ v. v.items) c.index_mut.ensures.value ∙ sym old) in
    map-set (λ places. places.items) lists fact c.push.new.self
    ∙ ap (λ (es : List ℕ). set (place_lists c.args.self.now) fact es) is

pub returns-in_ok-push-clause-listed : goal.returns-in_ok-push-clause-listed
returns-in_ok-push-clause-listed c =
    subst (λ (ls : List (List ℕ)). IsListed ls c.args.fact c.args.rule) (sym (is_more c))
    (listed_here (place_lists c.args.self.now) c.args.fact c.args.rule)

pub returns-in_ok-push-clause-kept : goal.returns-in_ok-push-clause-kept
returns-in_ok-push-clause-kept c n i before =
    subst (λ (ls : List (List ℕ)). IsListed ls n i) (sym (is_more c))
    (listed_still (place_lists c.args.self.now) c.args.fact c.args.rule n i before)
