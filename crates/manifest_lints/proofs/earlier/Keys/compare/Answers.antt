use Rattle.std.proofs.Common.{rules, ◌≡◌, ◌∙◌, sym, ap, true}
use Rattle.cargo_platform.specs.Trees.{tree_of, condition_of}
use Rattle.manifest_lints.proofs.Classes.{none_missed, classed_more}
use Rattle.manifest_lints.proofs.earlier.Keys.compare.Goals as goal

pub returns-clause-unlike : goal.returns-clause-unlike
returns-clause-unlike c = λ allows classed is e tree.
    let so : c.is_unlike.result ≡ true = search rules in
    let own = ap condition_of c.in-Cfg.is in
    none_missed c.args.known.now c.args.self.now (condition_of c.args.platform.now) allows classed
    (tree_of c.in-Cfg.e) c.in_ok-class.class c.in_ok-number.number (c.in_ok-class.ensures own)
    (c.in_ok-number.ensures own) (c.in_ok-found.ensures.unlike (sym c.is_unlike.ensures ∙ so)) own

pub returns-clause-classed : goal.returns-clause-classed
returns-clause-classed c = λ classed.
    let own = ap condition_of c.in-Cfg.is in
    classed_more c.args.self.now c.put_member.new.self (c.args.index, c.args.platform) c.in_ok-class.class
    c.in_ok-number.number (tree_of c.in-Cfg.e) c.in_ok-put_member.ensures.puts own (c.in_ok-class.ensures own)
    (c.in_ok-number.ensures own) classed

pub returns-clause-puts : goal.returns-clause-puts
returns-clause-puts c = λ alike tree. c.in_ok-put_member.ensures.puts.pushed
