use Rattle.std.proofs.Common.{◌≡◌, ℕ, ◌<◌, List, length, sym, ◌∙◌, ap, subst, arith, below_more}
use Rattle.std.specs.Prelude.{Contains}
use Rattle.std.proofs.lemmas.List.{length-map}
use Rattle.std.proofs.lemmas.List.Elements.{Contains-get_or}
use Rattle.cargo_metadata.specs.declared.packages.Package.{Package as Described}
use Rattle.cargo_metadata.specs.Ids.{package_ids, node_ids, id_at}
use Rattle.cargo_metadata.specs.Indexes.{index_at, IsIndex}
use Rattle.cargo_metadata.specs.Inside.Finding.{Describes}
use Rattle.cargo_metadata.proofs.Indexing.{id_read, inside_ids, index_none, index_more, index_repeat}
use Rattle.cargo_metadata.proofs.Indexing.{index_distinct, all_distinct, found_contains, absent}
use Rattle.cargo_metadata.proofs.Adding.{pushed_more, pushed_count}
use Rattle.cargo_metadata.proofs.graphs.linking.node_indexes.Goals as goal

pub nodes-init : goal.nodes-init
nodes-init c = record {
  index = index_none (index_at c.new-indexes.result) (node_ids c.args.metadata.now.nodes.items) c.new-indexes.ensures;
  known = λ k below. absurd (omega arith);
  described = record { count = ap length c.new-described.ensures.items; each = λ k d below. absurd (omega arith) };
}

pub returns-in_default : goal.returns-in_default
returns-in_default c =
    let m = c.args.metadata.now in
    let i = c.nodes.i in
    let node = c.index.result.now in
    let below : i < length m.nodes.items = omega (arith, c.nodes-test.true, c.len-i-end.ensures, m.nodes.ok.0) in
    let is = id_read (λ n. n.id.now) m.nodes.items i node below c.index.ensures in
    let ids = package_ids m.packages.items in
    record {
      packages = all_distinct (λ p. p.id.now) m.packages.items (index_at c.args.packages.now) c.requires;
      before = record {
        known = c.nodes.invariant.known;
        distinct = index_distinct (index_at c.nodes.indexes) (node_ids m.nodes.items) i c.nodes.invariant.index;
      };
      inside = below;
      none = λ h.
          absent (index_at c.args.packages.now) ids node.id.now c.requires (sym c.in_default.ensures)
          (subst (λ (q : List ℕ). Contains ids q) (sym is) h);
    }

pub returns-in-Ok-Some : goal.returns-in-Ok-Some
returns-in-Ok-Some c =
    let m = c.args.metadata.now in
    let i = c.nodes.i in
    let node = c.index.result.now in
    let below : i < length m.nodes.items = omega (arith, c.nodes-test.true, c.len-i-end.ensures, m.nodes.ok.0) in
    let is = id_read (λ n. n.id.now) m.nodes.items i node below c.index.ensures in
    record {
      packages = all_distinct (λ p. p.id.now) m.packages.items (index_at c.args.packages.now) c.requires;
      before = record {
        known = c.nodes.invariant.known;
        distinct = index_distinct (index_at c.nodes.indexes) (node_ids m.nodes.items) i c.nodes.invariant.index;
      };
      repeated =
          index_repeat (index_at c.nodes.indexes) (node_ids m.nodes.items) c.in-Ok-Some.first i node.id.now
          (inside_ids (λ n. n.id.now) m.nodes.items i below) is
          (sym c.in-Ok-Some.ensures.earlier ∙ c.in-Ok-Some.field-0-is) c.nodes.invariant.index;
    }

pub index-requires-in-nodes : goal.index-requires-in-nodes
index-requires-in-nodes c =
    let m = c.args.metadata.now in
    let it = (c.requires.sound c.index.result.now.id.now c.in-Some.index (sym c.in-Some.ensures)).0 in
    omega (arith, it, length-map m.packages.items (λ p. p.id.now), m.packages.ok.0)

pub nodes-preserved : goal.nodes-preserved
nodes-preserved c =
    let m = c.args.metadata.now in
    let i = c.nodes.i in
    let node = c.index.result.now in
    let below : i < length m.nodes.items = omega (arith, c.nodes-test.true, c.len-i-end.ensures, m.nodes.ok.0) in
    let is = id_read (λ n. n.id.now) m.nodes.items i node below c.index.ensures in
    let packages = package_ids m.packages.items in
    let index = c.in-Some.index in
    let found = sym c.in-Some.ensures in
    let named = c.requires.sound node.id.now index found in
    let inside : index < length m.packages.items =
    omega (arith, named.0, length-map m.packages.items (λ p. p.id.now)) in
    let d : Described = c.index-in-nodes.result.now in
    let read = id_read (λ p. p.id.now) m.packages.items index d inside c.index-in-nodes.ensures in
    let described : Describes m (id_at (node_ids m.nodes.items) i) d = record {
      described =
          subst (λ (p : Described). Contains m.packages.items p) (sym c.index-in-nodes.ensures)
          (Contains-get_or m.packages.items index d inside);
      named = read ∙ named.1 ∙ is;
    } in
    record {
      index =
          index_more (index_at c.nodes.indexes) (index_at c.add.new.self) (node_ids m.nodes.items) i node.id.now is
          (sym c.in-Ok-None.ensures.earlier ∙ c.in-Ok-None.field-0-is) c.in-Ok-None.ensures.added
          c.nodes.invariant.index;
      known =
          below_more (λ k. Contains packages (id_at (node_ids m.nodes.items) k)) i c.nodes.invariant.known
          (subst (λ (q : List ℕ). Contains packages q) is
          (found_contains (index_at c.args.packages.now) packages node.id.now index c.requires found));
      described = record {
        count = pushed_count c.nodes.described.items c.push.new.self.items d i c.nodes.invariant.described.count
            c.in_default-push.ensures.items;
        each =
            pushed_more (λ k d. Describes m (id_at (node_ids m.nodes.items) k) d) c.nodes.described.items
            c.push.new.self.items d i c.nodes.invariant.described.count c.in_default-push.ensures.items
            c.nodes.invariant.described.each described;
      };
    }

pub returns : goal.returns
returns c =
    let m = c.args.metadata.now in
    let all : c.nodes.i ≡ length m.nodes.items =
    omega (arith, c.nodes.auto.i-end, c.nodes-test.false, c.len-i-end.ensures, m.nodes.ok.0) in
    let index : IsIndex (index_at c.nodes.indexes) (node_ids m.nodes.items) (length (node_ids m.nodes.items)) =
    subst (λ (n : ℕ). IsIndex (index_at c.nodes.indexes) (node_ids m.nodes.items) n)
    (all ∙ sym (length-map m.nodes.items (λ n. n.id.now))) c.nodes.invariant.index in
    record {
      ids = record {
        packages = all_distinct (λ p. p.id.now) m.packages.items (index_at c.args.packages.now) c.requires;
        nodes = record {
          known = λ k below. c.nodes.invariant.known k (omega (arith, below, all));
          distinct = all_distinct (λ n. n.id.now) m.nodes.items (index_at c.nodes.indexes) index;
        };
      };
      found = index;
      described = record {
        count = c.nodes.invariant.described.count ∙ all;
        each = λ k d below. c.nodes.invariant.described.each k d (omega (arith, below, all));
      };
    }
