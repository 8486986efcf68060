use Rattle.manifests.proofs.Written.{tokens_declare, text_declares}
use Rattle.manifests.proofs.laws.what_is_written_is_declared.Goals as goal

pub returns-clause-tokens : goal.returns-clause-tokens
returns-clause-tokens c = tokens_declare

pub returns-clause-text : goal.returns-clause-text
returns-clause-text c = text_declares
