-- Which licences an entry of a list allows, and whether a list satisfies an expression.
use Rattle.std.specs.Prelude.{ℕ, ◌-◌, Bool, true, false, not, ◌&&◌, ◌||◌, if◌then◌else◌, List, length, take, drop}
use Rattle.std.specs.Prelude.{codes}
use Rattle.std.specs.Prelude.{Option, Some, None}
use Rattle.std.specs.Str.{str_eq_ignore_ascii_case}
use Rattle.std.specs.List.{list_any}
use Rattle.spdx_expressions.specs.Trees.{Term, Tree, Single, Both, Either}

-- the name ends with this, ignoring the case of letters
abbrev pub ends_in : List ℕ → List ℕ → Bool
ends_in suffix name = str_eq_ignore_ascii_case (drop (length name - length suffix) name) suffix

-- the licence is offered in later versions too: `+`, or a name that ends in `-or-later`
abbrev pub offers_later : Term → Bool
offers_later t = t.or_later || ends_in (codes "-or-later") t.name

-- the name without `-or-later` or `-only`, with which some licences of the SPDX list end
abbrev pub stem : List ℕ → List ℕ
stem name =
    if ends_in (codes "-or-later") name then take (length name - 9) name
    else (if ends_in (codes "-only") name then take (length name - 5) name else name)

abbrev pub same_exception : Option (List ℕ) → Option (List ℕ) → Bool
same_exception None None = true
same_exception None (Some f) = false
same_exception (Some e) None = false
same_exception (Some e) (Some f) = str_eq_ignore_ascii_case e f

-- An entry allows a licence of the same name and exception. A licence that offers later versions is allowed by either
-- form of the entry, since it may be taken in the version that it names; any other only by an entry of that version.
abbrev pub allows : Term → Term → Bool
allows entry t =
    str_eq_ignore_ascii_case (stem entry.name) (stem t.name)
    && (not (offers_later entry) || offers_later t)
    && same_exception entry.exception t.exception

-- some entry of the list allows the licence
abbrev pub is_allowed : List Term → Term → Bool
is_allowed entries t = list_any (λ entry. allows entry t) entries

-- the truth of a tree, by the truth of its licences: both sides of an `AND`, one side of an `OR`
abbrev pub truth : (Term → Bool) → Tree → Bool
truth holds (Single t) = holds t
truth holds (Both left right) = truth holds left && truth holds right
truth holds (Either left right) = truth holds left || truth holds right
