-- The identifiers in SPDX's licence list.
use Rattle.std.specs.Prelude.{ℕ, List, ◌++◌, Option, map}
use Rattle.std.specs.Borrow.{Bor}
use Rattle.std.specs.List.{find}
use Rattle.std.specs.Str.{str_eq_ignore_ascii_case}
use Rattle.known_licences.specs.declared.table.TheConstants.{FIRST_LICENCES, OTHER_LICENCES, EXCEPTIONS}
use Rattle.known_licences.specs.declared.table.TheConstants.{DEPRECATED}

-- names, whatever their place in memory
abbrev pub names_of : List (Bor (List ℕ)) → List (List ℕ)
names_of names = map (λ name. name.now) names

unfoldable pub first_licences : List (List ℕ)
first_licences = map (λ name. name.now) FIRST_LICENCES

unfoldable pub other_licences : List (List ℕ)
other_licences = map (λ name. name.now) OTHER_LICENCES

abbrev pub licences : List (List ℕ)
licences = first_licences ++ other_licences

unfoldable pub exceptions : List (List ℕ)
exceptions = map (λ name. name.now) EXCEPTIONS

unfoldable pub deprecated : List (List ℕ)
deprecated = map (λ name. name.now) DEPRECATED

-- the first of the names that is the text, whatever the case of ASCII letters
abbrev pub listed : List (List ℕ) → List ℕ → Option (List ℕ)
listed names text = find (λ name. str_eq_ignore_ascii_case name text) names
