use Rattle.std.proofs.Common.{◌≡◌, [], drop}
use Rattle.partial_facts.specs.Partly.{names_of}
use Rattle.manifests.specs.Declarations.{names_from, lexemes_in}
use Rattle.manifests.specs.Steps.{behind}
use Rattle.manifests.proofs.declared.names_in.Given as goal

-- the answer depends on what is left
abbrev pub invariant-names : goal.invariant-names
invariant-names l =
    names_from (names_of l.names.items) (behind l.before (lexemes_in (drop l.at l.tokens)))
    ≡ names_from [] (lexemes_in l.tokens)
