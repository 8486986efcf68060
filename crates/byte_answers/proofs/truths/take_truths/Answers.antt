use Rattle.std.proofs.Common.{◌≡◌, ap, Bool, true, false, ◌&&◌, ◌||◌}
use Rattle.byte_answers.proofs.Stacks.{taken_more}
use Rattle.byte_answers.proofs.truths.take_truths.Goals as goal
use Rattle.byte_answers.proofs.truths.take_truths.Goals.{then-taken, else-taken, then-taken-2, else-taken-2}

pub members-preserved : goal.members-preserved
members-preserved c =
    let h = c.members.invariant in
    let b = c.in_ok-is_true.is_true in
    let all : c.if-taken.taken ≡ (c.members.taken.all && b) =
    elim c.if-taken.branch [
      | then-taken w ↦
          let is = w.taken-is in
          let old : c.members.taken.all ≡ true = w.if-taken.true in
          let both : (c.members.taken.all && b) ≡ b = ap (λ (a : Bool). a && b) old in cc
      | else-taken w ↦
          let is = w.taken-is in
          let old : c.members.taken.all ≡ false = w.if-taken.false in
          let both : (c.members.taken.all && b) ≡ false = ap (λ (a : Bool). a && b) old in cc
    ] in
    let any : c.if-taken-2.taken ≡ (c.members.taken.any || b) =
    elim c.if-taken-2.branch [
      | then-taken-2 w ↦
          let is = w.taken-is in
          let old : c.members.taken.any ≡ true = w.if-taken-2.true in
          let either : (c.members.taken.any || b) ≡ true = ap (λ (a : Bool). a || b) old in cc
      | else-taken-2 w ↦
          let is = w.taken-is in
          let old : c.members.taken.any ≡ false = w.if-taken-2.false in
          let either : (c.members.taken.any || b) ≡ b = ap (λ (a : Bool). a || b) old in cc
    ] in
    taken_more c.args.built.now.items c.members.built.items c.pop.new.self.items h.0 b c.members.left c.args.count
    c.members.taken.all c.members.taken.any c.if-taken.taken c.if-taken-2.taken h.1.0 c.in_ok-is_true.ensures.items
    h.1.1 c.members-test.true h.1.2 h.1.3 all any
