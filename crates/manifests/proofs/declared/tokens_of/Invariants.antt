use Rattle.manifests.proofs.Lexemes.{HasRead}
use Rattle.manifests.proofs.declared.tokens_of.Given as goal

abbrev pub invariant-tokens : goal.invariant-tokens
invariant-tokens l = HasRead l.text l.item-iterator l.tokens.items
