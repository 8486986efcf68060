use Rattle.std.proofs.Common.{get_or}
use Rattle.std.proofs.lemmas.Option.{slice_get-get_or}
use Rattle.declared_features.specs.Members.{IsOfDependency, IsOwn}
use Rattle.declared_features.specs.Inside.Names.{index_in}
use Rattle.declared_features.proofs.Collecting.{below_start, below_next, below_end}
use Rattle.declared_features.proofs.linking.Lists.push_members.Goals as goal

pub found-init : goal.found-init
found-init c =
    below_start c.args.members.now.items c.args.self.now.found.now
    (λ i d m. IsOfDependency (index_in c.args.self.now.names.now) c.args.entry i d m)

pub found-preserved : goal.found-preserved
found-preserved c =
    let found = c.args.self.now.found.now in
    let d = get_or found c.found.i c.index-self-i.result in
    below_next c.args.members.now.items c.found.members.items c.push_member.new.members.items found
    (λ i d m. IsOfDependency (index_in c.args.self.now.names.now) c.args.entry i d m) c.found.i d c.member-member.result
    (slice_get-get_or found c.found.i c.index-self-i.result c.found-test.true) c.member-member.ensures
    c.in_ok-push_member.ensures c.found.invariant

pub returns : goal.returns
returns c =
    below_end c.args.members.now.items c.found.members.items c.push_own.new.members.items c.args.self.now.found.now
    (λ i d m. IsOfDependency (index_in c.args.self.now.names.now) c.args.entry i d m)
    (IsOwn (index_in c.args.self.now.names.now) c.args.self.now.node c.args.entry) c.found.i c.found-test.false
    c.found.invariant c.in_ok-push_own.ensures
