-- Licence texts and the licences that they name.
use Rattle.std.proofs.Common.{◌≡◌, ◌∙◌, ◌<◌, ◌+◌, ℕ, Bool, false, List, length, get_or, sym, subst}
use Rattle.std.specs.List.{AllWithin}
use Rattle.std.proofs.lemmas.List.{get_or_default}
use Rattle.std.proofs.lemmas.List.Elements.{AllWithin-more}
use Rattle.spdx_expressions.specs.Trees.{Tree, Piece, pieces}
use Rattle.spdx_expressions.specs.Grammar.{IsTreeText, Spells}
use Rattle.spdx_expressions.specs.declared.Licence.{Licence}
use Rattle.spdx_expressions.specs.declared.Part.{Part}
use Rattle.licence_audits.specs.Uses.{NamesIn, has_use, NeedsException}
use Rattle.licence_audits.specs.declared.subjects.Subject.{Subject}
use Rattle.licence_audits.specs.declared.subjects.Exception.{Exception}

-- the text that an expression was read from names what the parts of the expression name
pub named_in : (entries : List Licence) (text : List ℕ) (ps : List Piece) (parts : List Part) (b : Bool)
    → ((t : Tree) × IsTreeText text t × Spells 0 t ps) → pieces parts ≡ ps → b ≡ has_use entries parts
    → NamesIn entries text b
named_in entries text ps parts b read same needed =
    (read.0, parts, read.1, subst (λ (qs : List Piece). Spells 0 read.0 qs) (sym same) read.2, sym needed)

-- one more package does not need an exception
pub one_unneeded : (e : Exception) (subjects : List Subject) (i : ℕ) (s : Subject) → i < length subjects
    → s ≡ get_or subjects i s → AllWithin (λ (x : Subject). NeedsException e x false) subjects 0 i
    → NeedsException e s false → AllWithin (λ (x : Subject). NeedsException e x false) subjects 0 (i + 1)
one_unneeded e subjects i s below is before now =
    AllWithin-more (λ (x : Subject). NeedsException e x false) subjects 0 i before
    (λ d. subst (λ (x : Subject). NeedsException e x false) (is ∙ get_or_default subjects i s d below) now)
