use Rattle.std.proofs.Common.{◌≡◌, ◌<◌, ◌≤◌, length, ℕ, Option, Some, subst, arith}
use Rattle.std.specs.Prelude.{Any}
use Rattle.declared_features.specs.Lists.{Adds}
use Rattle.declared_features.specs.Requests.{IsDefault}
use Rattle.declared_features.specs.Inside.Names.{index_in}
use Rattle.declared_features.proofs.Collecting.{any_start, any_next, any_end, just_then}
use Rattle.declared_features.proofs.linking.features_requested.Goals as goal

pub features-init : goal.features-init
features-init c =
    any_start c.new-features.result.items c.args.declared.now.features.items
    (λ f index. index_in c.args.names.now c.args.to f.now ≡ Some index) c.new-features.ensures.items

pub features-preserved : goal.features-preserved
features-preserved c =
    let fs = c.args.declared.now.features in
    let i = c.features.i in
    let below : i < length fs.items = omega (arith, c.features-test.true, c.len-i-end.ensures, fs.ok.0) in
    any_next c.features.features.items c.push_index.new.indexes.items fs.items i c.index-feature.result.now
    (λ f index. index_in c.args.names.now c.args.to f.now ≡ Some index) below c.index-feature.ensures
    (subst (λ (o : Option ℕ). Adds c.features.features.items c.push_index.new.indexes.items (λ p. o ≡ Some p))
    c.feature.ensures c.in_ok-push_index.ensures)
    c.features.invariant

pub returns : goal.returns
returns c =
    let fs = c.args.declared.now.features in
    let past : length fs.items ≤ c.features.i = omega (arith, c.features-test.false, c.len-i-end.ensures, fs.ok.0) in
    just_then c.features.features.items c.push_index-2.new.indexes.items
    (λ index. Any (λ f. index_in c.args.names.now c.args.to f.now ≡ Some index) fs.items)
    (λ index. c.default_requested.result ≡ Some index)
    (IsDefault (index_in c.args.names.now) c.args.to c.args.declared.now)
    (any_end c.features.features.items fs.items c.features.i
    (λ f index. index_in c.args.names.now c.args.to f.now ≡ Some index) past c.features.invariant)
    c.in_ok-push_index-2.ensures (λ p is. (c.default_requested.ensures p).0 is)
    (λ p is. (c.default_requested.ensures p).1 is)
