use Rattle.declared_features.specs.Members.{StandsFor}
use Rattle.declared_features.specs.Inside.Names.{index_in}
use Rattle.declared_features.proofs.Collecting.{any_start, any_copied, any_end}
use Rattle.declared_features.proofs.linking.Lists.members.Goals as goal

pub entries-init : goal.entries-init
entries-init c =
    let self = c.args.self.now in
    any_start c.new-members.result.items c.args.entries.now
    (λ e m. StandsFor (index_in self.names.now) self.node self.found.now e m) c.new-members.ensures.items

pub entries-preserved : goal.entries-preserved
entries-preserved c =
    let self = c.args.self.now in
    any_copied c.entries.members.items c.push_members.new.members.items c.args.entries.now c.entries.i _
    (λ e m. StandsFor (index_in self.names.now) self.node self.found.now e m) c.entries-test.true
    c.in_ok-push_members.ensures c.entries.invariant

pub returns : goal.returns
returns c =
    let self = c.args.self.now in
    any_end c.entries.members.items c.args.entries.now c.entries.i
    (λ e m. StandsFor (index_in self.names.now) self.node self.found.now e m) c.entries-test.false
    c.entries.invariant
