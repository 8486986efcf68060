use Rattle.std.proofs.Common.{◌∙◌, sym, subst, ap}
use Rattle.cargo_platform.specs.Trees.{value_of}
use Rattle.cargo_platform.specs.Facts.{pair_of}
use Rattle.exact_answers.specs.Goals.{StandsAt, pairs_of}
use Rattle.exact_answers.specs.Inside.Paths.{base_of, turns}
use Rattle.exact_answers.specs.Inside.Ahead.{IsOpenAt, AreTold, table_pairs}
use Rattle.exact_answers.proofs.Ahead.{none_met, decided, open_at, found_by}
use Rattle.exact_answers.proofs.Numbers.{short_open}
use Rattle.exact_answers.proofs.outlook.GoalEvaluator.step.Goals as goal

pub returns-then-found-eq0 : goal.returns-then-found-eq0
returns-then-found-eq0 c = λ gs is.
    none_met c.args.self.now gs is (base_of c.args.path.now.known.now) (turns c.args.path.now)
    c.in_ok-table.table.items c.in_ok-found.found c.in_ok-table.ensures.chosen
    (found_by c.args.self.now _ _ c.in_ok-table.table.items c.in_ok-found.found c.deref-2.ensures.value
    c.deref-3.ensures.value c.in_ok-found.ensures)
    c.if-found-eq0.true

pub returns-in-Known : goal.returns-in-Known
returns-in-Known c = λ gs is.
    decided c.args.self.now gs is (base_of c.args.path.now.known.now) (turns c.args.path.now)
    c.in_ok-table.table.items c.in_ok-found.found c.in_ok-table.ensures.chosen
    (found_by c.args.self.now _ _ c.in_ok-table.table.items c.in_ok-found.found c.deref-2.ensures.value
    c.deref-3.ensures.value c.in_ok-found.ensures)
    c.in-Known.met c.in-Known.is

pub open_pair-requires : goal.open_pair-requires
open_pair-requires c =
    let at : IsOpenAt c.in_ok-table.table.items c.in-Open.number =
    open_at c.args.self.now c.requires.0 c.requires.1 (base_of c.args.path.now.known.now) (turns c.args.path.now)
    c.in_ok-table.table.items c.in_ok-found.found c.in_ok-table.ensures.chosen
    (found_by c.args.self.now _ _ c.in_ok-table.table.items c.in_ok-found.found c.deref-2.ensures.value
    c.deref-3.ensures.value c.in_ok-found.ensures)
    c.in-Open.number c.in-Open.is in
    let there = subst (λ ws. IsOpenAt ws c.in-Open.number) (sym c.deref-in-Open.ensures.value) at in
    record { short = short_open c.deref-in-Open.result.now c.in-Open.number there; untold = there }

pub returns : goal.returns
returns c = λ gs is. (
  c.open_pair.ensures.open (base_of c.args.path.now.known.now) (turns c.args.path.now)
      (subst (AreTold (base_of c.args.path.now.known.now) (turns c.args.path.now))
      (sym c.deref-in-Open.ensures.value) c.in_ok-table.ensures.told),
  is.asked c.in-Open.number _
      (subst (λ ps. StandsAt ps c.in-Open.number (pair_of (value_of c.open_pair.result.now)))
      (ap table_pairs c.deref-in-Open.ensures.value ∙ c.in_ok-table.ensures.pairs
      ∙ ap pairs_of c.deref.ensures.value)
      c.open_pair.ensures.stands),
)
