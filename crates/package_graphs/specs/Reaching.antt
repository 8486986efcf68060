-- The nodes that are reached from starts by steps.

-- A start is reached, and whatever a step leads to from a node that is reached. Nothing else is.
pub data Reaches {N : Type 0} (IsStart : N → Type 0) (Leads : N → N → Type 0) : N → Type 0 where
  starts : (n : N) → IsStart n → Reaches IsStart Leads n
  goes_on : (m n : N) → Reaches IsStart Leads m → Leads m n → Reaches IsStart Leads n
