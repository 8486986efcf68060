use Rattle.std.proofs.Common.{ℕ, ◌<◌, List, length, sym, ◌∙◌, subst, arith, below_more}
use Rattle.std.specs.Prelude.{Contains}
use Rattle.cargo_metadata.specs.Ids.{node_ids, member_ids, id_at}
use Rattle.cargo_metadata.specs.Indexes.{index_at}
use Rattle.cargo_metadata.specs.Inside.Finding.{AreMembersAmong}
use Rattle.cargo_metadata.proofs.Indexing.{id_read, inside_ids, found_contains, absent, no_index, index_found}
use Rattle.cargo_metadata.proofs.Indexing.{members_sound, members_complete, none_some}
use Rattle.cargo_metadata.proofs.graphs.linking.member_indexes.Goals as goal

pub members-init : goal.members-init
members-init c = record {
  nodes = λ k below. absurd (omega arith);
  sound = λ q h. absurd (none_some (index_at c.new-indexes.result q) (c.new-indexes.ensures q) h);
  complete = λ k below. absurd (omega arith);
}

pub returns-then-is_none : goal.returns-then-is_none
returns-then-is_none c =
    let m = c.args.metadata.now in
    let i = c.members.i in
    let id = c.index-id.result.now.now in
    let ids = member_ids m.members.items in
    let below : i < length m.members.items = omega (arith, c.members-test.true, c.len-i-end.ensures, m.members.ok.0) in
    let is = id_read (λ b. b.now) m.members.items i c.index-id.result.now below c.index-id.ensures in
    let nodes = node_ids m.nodes.items in
    record {
      ids = c.requires.ids;
      before = c.members.invariant.nodes;
      inside = below;
      none = λ h.
          absent (index_at c.args.nodes.now) nodes id c.requires.nodes
          (sym c.find.ensures ∙ no_index c.find.result c.is_none.result c.is_none.ensures c.if-is_none.true)
          (subst (λ (q : List ℕ). Contains nodes q) (sym is) h);
    }

pub members-preserved : goal.members-preserved
members-preserved c =
    let m = c.args.metadata.now in
    let i = c.members.i in
    let id = c.index-id.result.now.now in
    let ids = member_ids m.members.items in
    let below : i < length m.members.items = omega (arith, c.members-test.true, c.len-i-end.ensures, m.members.ok.0) in
    let is = id_read (λ b. b.now) m.members.items i c.index-id.result.now below c.index-id.ensures in
    let nodes = node_ids m.nodes.items in
    let found = index_found c.find.result c.is_none.result c.is_none.ensures c.if-is_none.false in
    record {
      nodes =
          below_more (λ k. Contains nodes (id_at ids k)) i c.members.invariant.nodes
          (subst (λ (q : List ℕ). Contains nodes q) is
          (found_contains (index_at c.args.nodes.now) nodes id found.0 c.requires.nodes
          (sym c.find.ensures ∙ found.1)));
      sound =
          members_sound (index_at c.members.indexes) (index_at c.add.new.self) ids i id
          (inside_ids (λ b. b.now) m.members.items i below) is c.in_default.ensures.added c.members.invariant.sound;
      complete =
          members_complete (index_at c.members.indexes) (index_at c.add.new.self) ids i id is
          c.in_default.ensures.added c.members.invariant.complete;
    }

pub returns : goal.returns
returns c =
    let m = c.args.metadata.now in
    subst (λ (n : ℕ). AreMembersAmong m c.members.indexes n)
    (omega (arith, c.members.auto.i-end, c.members-test.false, c.len-i-end.ensures, m.members.ok.0))
    c.members.invariant
