-- The facts that follow from what is given by steps from two facts to one.

-- Whatever is given follows, and whatever a step leads to from two that follow. Nothing else does.
pub data Follows {N : Type 0} (IsGiven : N → Type 0) (Leads : N → N → N → Type 0) : N → Type 0 where
  given : (n : N) → IsGiven n → Follows IsGiven Leads n
  follows : (a b n : N) → Follows IsGiven Leads a → Follows IsGiven Leads b → Leads a b n → Follows IsGiven Leads n
