use Rattle.cargo_platform.specs.Trees.{condition_of}
use Rattle.manifest_lints.proofs.Classes.{among_some, among_none}
use Rattle.manifest_lints.proofs.earlier.Keys.as_true_among.Goals as goal

pub returns-in-Some-clause-unlike : goal.returns-in-Some-clause-unlike
returns-in-Some-clause-unlike c =
    among_some c.args.known.now c.args.self.now (condition_of c.args.platform.now) c.args.class c.args.number
    c.in-Some.field-0 c.as_true_in_part.result c.in-Some.is c.as_true_in_part.ensures.numbered
    c.as_true_in_part.ensures.not_numbered

pub returns-in-None-clause-unlike : goal.returns-in-None-clause-unlike
returns-in-None-clause-unlike c =
    among_none c.args.known.now c.args.self.now (condition_of c.args.platform.now) c.args.class c.args.number
    c.as_true.result c.in-None.is c.as_true.ensures.unlike
