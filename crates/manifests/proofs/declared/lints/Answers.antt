use Rattle.std.specs.Prelude.{codes}
use Rattle.toml.proofs.Views.{table_get}
use Rattle.manifests.proofs.declared.lints.Goals as goal

pub returns : goal.returns
returns c = table_get c.get.result (codes "lints") c.args.manifest.now.entries c.get.ensures.value
