-- What is reached from more starts by more steps, and from two kinds of start.
use Rattle.std.proofs.Common.{ℕ, List, ◌++◌, ◌⊎◌, inl, inr}
use Rattle.std.proofs.lemmas.List.Elements.{Contains-append_cases, Contains-append_left, Contains-append_right}
use Rattle.std.specs.Prelude.{Contains}
use Rattle.package_graphs.specs.Reaching.{Reaches, starts, goes_on}
use Rattle.package_graphs.specs.Graphs.{Edges, IsPartOf, IsPresent, LeadsAt}

-- what holds of the starts, and of what a step leads to, holds of what is reached
pub held_along : {N : Type 0} (S : N → Type 0) (L : N → N → Type 0) (P : N → Type 0)
    → ((n : N) → S n → P n) → ((m n : N) → P m → L m n → P n) → (n : N) → Reaches S L n → P n
held_along S L P first on n (starts start is) = first start is
held_along S L P first on n (goes_on m end here leads) = on m end (held_along S L P first on m here) leads

leads_in_more : (graph more : Edges) (k m n : ℕ) → IsPartOf graph more → LeadsAt graph k m n → LeadsAt more k m n
leads_in_more graph more k m n part leads = record {
  edge = leads.edge;
  begins = part m leads.edge leads.begins;
  ends = leads.ends;
  holds = leads.holds;
}

pub more_edges : (graph more : Edges) (roots : List ℕ) (k n : ℕ) → IsPartOf graph more
    → IsPresent graph roots k n → IsPresent more roots k n
more_edges graph more roots k n part =
    held_along (λ root. Contains roots root) (λ m n. LeadsAt graph k m n) (IsPresent more roots k)
    (λ m is. starts m is)
    (λ m n here leads. goes_on m n here (leads_in_more graph more k m n part leads)) n

pub more_roots : (graph : Edges) (roots more : List ℕ) (k n : ℕ)
    → ((root : ℕ) → Contains roots root → Contains more root) → IsPresent graph roots k n → IsPresent graph more k n
more_roots graph roots more k n part =
    held_along (λ root. Contains roots root) (λ m n. LeadsAt graph k m n) (IsPresent graph more k)
    (λ m is. starts m (part m is))
    (λ m n here leads. goes_on m n here leads) n

pub from_either : (graph : Edges) (roots others : List ℕ) (k n : ℕ) → IsPresent graph (roots ++ others) k n
    → IsPresent graph roots k n ⊎ IsPresent graph others k n
from_either graph roots others k n =
    held_along (λ root. Contains (roots ++ others) root) (λ m n. LeadsAt graph k m n)
    (λ m. IsPresent graph roots k m ⊎ IsPresent graph others k m)
    (λ m is. elim (Contains-append_cases roots others m is) [ inl a ↦ inl (starts m a) | inr b ↦ inr (starts m b) ])
    (λ m n here leads. elim here [ inl a ↦ inl (goes_on m n a leads) | inr b ↦ inr (goes_on m n b leads) ]) n

pub to_both : (graph : Edges) (roots others : List ℕ) (k n : ℕ)
    → IsPresent graph roots k n ⊎ IsPresent graph others k n → IsPresent graph (roots ++ others) k n
to_both graph roots others k n (inl a) =
    more_roots graph roots (roots ++ others) k n (λ root is. Contains-append_left roots others root is) a
to_both graph roots others k n (inr b) =
    more_roots graph others (roots ++ others) k n (λ root is. Contains-append_right roots others root is) b
