use Rattle.std.proofs.Common.{◌∙◌, ap, not}
use Rattle.cargo_platform.specs.Trees.{Value}
use Rattle.cargo_platform.specs.Spelling.{Expressions}
use Rattle.cargo_platform.specs.Walk.{WithTree}
use Rattle.cargo_platform.specs.Inside.Parsing.{at_name, at_lone_name}
use Rattle.cargo_platform.proofs.Parsing.{reads_same, reads_then, at_plain}
use Rattle.cargo_platform.proofs.matching.behind_name.Goals as goal

pub returns-clause-begun : goal.returns-clause-begun
returns-clause-begun g c = λ old from n.
    let fs = g.F.TextFacts.meant c.args.facts.now in
    let l = c.args.reader.now.ahead in
    let m = c.read_value.new.reader.ahead in
    let raw = c.args.raw in
    let name = c.args.name.now in
    let v = c.in_ok-answer.ensures.value raw in
    record {
      gs = n.gs;
      hold = n.hold;
      e = Value v.c;
      reads =
          reads_then Expressions old l m from (at_name raw name n.gs) (WithTree (Value v.c) n.gs) n.reads
          (reads_then Expressions l l m (at_name raw name n.gs) (at_lone_name raw name n.gs)
          (WithTree (Value v.c) n.gs)
          (reads_same Expressions l (at_name raw name n.gs) (at_lone_name raw name n.gs)
          (at_plain raw name n.gs (c.in_default.ensures, c.in_default-literal_named.ensures)))
          (v.reads Expressions n.gs));
      clear = v.clear;
      is = λ matters. v.is (ap not (c.is_settled-is_asked.ensures.settled fs n.gs n.hold ∙ matters));
    }
