-- The finding about a licence text, over a list of allowed licences.
use Rattle.std.specs.Prelude.{◌≡◌, ℕ, Bool, true, false, List, Option, Some, None, string_bytes}
use Rattle.std.specs.Option.{IsSomeAnd}
use Rattle.spdx_expressions.specs.Trees.{Term, Tree, Piece}
use Rattle.spdx_expressions.specs.Grammar.{IsTreeText, Spells}
use Rattle.spdx_expressions.specs.Allowed.{is_allowed, truth}
use Rattle.spdx_expressions.specs.Faults.{IsFault}
use Rattle.spdx_expressions.specs.declared.error.ParseError.{ParseError}
use Rattle.licence_audits.specs.declared.findings.Finding.{Finding}
use Rattle.licence_audits.specs.declared.findings.Finding.TheVariants.{NotAllowed, Missing, Refused}

-- the text spells a tree, and whether the list satisfies it
abbrev pub IsJudged : List Term → List ℕ → Bool → Type 0
IsJudged allowed text b = (t : Tree) × IsTreeText text t × (truth (is_allowed allowed) t ≡ b)

-- the list does not satisfy the tree, and these are the parts of the text
abbrev pub IsUnsatisfied : List Term → List ℕ → List Piece → Type 0
IsUnsatisfied allowed text ps =
    (t : Tree) × IsTreeText text t × Spells 0 t ps × (truth (is_allowed allowed) t ≡ false)

-- the text spells no tree, and this is its fault
pub record IsRefused (text : List ℕ) (e : ParseError) : Type 0 where
  pub no_tree : (t : Tree) → IsTreeText text t → ⊥
  pub of_text : string_bytes e.text ≡ text
  pub fault : IsFault text e.expected e.found e.span

abbrev pub IsFound : List Term → Option (List ℕ) → Finding → Type 0
IsFound allowed license (NotAllowed e) = IsSomeAnd license (λ text. IsUnsatisfied allowed text e)
IsFound allowed license Missing = license ≡ None
IsFound allowed license (Refused e) = IsSomeAnd license (λ text. IsRefused text e)

-- nothing if the list satisfies the tree that the text spells, and otherwise the reason
abbrev pub HasFinding : List Term → Option (List ℕ) → Option Finding → Type 0
HasFinding allowed license None = IsSomeAnd license (λ text. IsJudged allowed text true)
HasFinding allowed license (Some found) = IsFound allowed license found
