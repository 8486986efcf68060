use Rattle.std.proofs.Common.{◌≡◌, ℕ, ◌<◌, length}
use Rattle.declared_features.specs.Described.{IsDescribedAt}
use Rattle.declared_features.specs.Inside.Names.{index_in}
use Rattle.declared_features.proofs.linking.resolver_input.Given as goal

abbrev pub invariant-nodes : goal.invariant-nodes
invariant-nodes l =
    (length l.packages.items ≡ l.node) × (length l.edges.items ≡ l.node)
    × ((node : ℕ) → node < l.node
    → IsDescribedAt l.graph l.requested (index_in l.names) l.packages.items l.edges.items node)
