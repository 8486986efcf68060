use Rattle.std.proofs.Common.{◌≡◌, true, false, [], drop}
use Rattle.partial_facts.specs.Partly.{names_of}
use Rattle.manifests.specs.Declarations.{values_from, lexemes_in}
use Rattle.manifests.specs.Steps.{values_at_stage}
use Rattle.manifests.proofs.declared.values_in.Given as goal

-- the answer depends on what is left
abbrev pub invariant-values : goal.invariant-values
invariant-values l =
    values_at_stage l.stage (names_of l.texts.items) l.any l.none (lexemes_in (drop l.at l.tokens))
    ≡ values_from true [] false false (lexemes_in l.tokens)
