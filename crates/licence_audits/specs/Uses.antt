-- Which allowed licences and which exceptions packages need.
use Rattle.std.specs.Prelude.{◌≡◌, ◌&&◌, ℕ, Bool, true, false, ◌⊎◌, List, Option, Some, None, option_map, Vec}
use Rattle.std.specs.Global.{Global}
use Rattle.std.specs.List.{list_any}
use Rattle.spdx_expressions.specs.Trees.{Tree, term_of, pieces}
use Rattle.spdx_expressions.specs.Grammar.{IsTreeText, Spells}
use Rattle.spdx_expressions.specs.Allowed.{allows}
use Rattle.licence_audits.specs.Exceptions.{covers}
use Rattle.licence_audits.specs.declared.subjects.Subject.{Subject}
use Rattle.licence_audits.specs.declared.subjects.Exception.{Exception}
use Rattle.spdx_expressions.specs.declared.Licence.{Licence}
use Rattle.spdx_expressions.specs.declared.Part.{Part}
use Rattle.spdx_expressions.specs.declared.Part.TheVariants as part

-- some entry allows the licence
abbrev pub is_allowed_by : List Licence → Licence → Bool
is_allowed_by entries l = list_any (λ entry. allows (term_of entry) (term_of l)) entries

-- the part is a licence that some entry allows
abbrev pub is_use : List Licence → Part → Bool
is_use entries (part.Licence l) = is_allowed_by entries l
is_use entries part.And = false
is_use entries part.Or = false
is_use entries part.Open = false
is_use entries part.Close = false

-- one of the parts is
abbrev pub has_use : List Licence → List Part → Bool
has_use entries parts = list_any (λ p. is_use entries p) parts

-- the text is an expression of these parts, and one of them is a licence that some entry allows, or none is
abbrev pub NamesIn : List Licence → List ℕ → Bool → Type 0
NamesIn entries text b =
    (t : Tree) × (parts : List Part) × IsTreeText text t × Spells 0 t (pieces parts) × (has_use entries parts ≡ b)

-- the text spells no tree
abbrev pub IsNoText : List ℕ → Type 0
IsNoText text = (t : Tree) → IsTreeText text t → ⊥

-- whether a text names a licence that some entry allows; one that is no expression names none
abbrev pub IsNaming : List Licence → List ℕ → Bool → Type 0
IsNaming entries text b = NamesIn entries text b ⊎ (IsNoText text × (b ≡ false))

-- the same for a text if there is one; without a text, nothing is named
abbrev pub Names : List Licence → Option (List ℕ) → Bool → Type 0
Names entries None b = b ≡ false
Names entries (Some text) b = IsNaming entries text b

-- the same for a package that is to be audited, and not for any other
abbrev pub NamesIf : Bool → List Licence → Option (List ℕ) → Bool → Type 0
NamesIf true entries license b = Names entries license b
NamesIf false entries license b = b ≡ false

-- whether a package that is to be audited has a licence that some entry allows
abbrev pub NeedsEntry : List Licence → Subject → Bool → Type 0
NeedsEntry entries s b = NamesIf s.is_present entries (option_map (λ text. text.now) s.license) b

-- the package is to be audited, and the exception counts for it
abbrev pub is_for : Exception → Subject → Bool
is_for e s = s.is_present && covers e.packages s

-- whether a package, for which an exception counts or does not, needs it: by its list, if there is one
abbrev pub NeedsIf : Bool → Option (Vec Licence Global) → Option (List ℕ) → Bool → Type 0
NeedsIf false licences license b = b ≡ false
NeedsIf true None license b = b ≡ true
NeedsIf true (Some licences) license b = Names licences.items license b

-- whether a package needs an exception
abbrev pub NeedsException : Exception → Subject → Bool → Type 0
NeedsException e s b = NeedsIf (is_for e s) e.licences (option_map (λ text. text.now) s.license) b
