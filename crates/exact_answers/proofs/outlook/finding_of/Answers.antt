use Rattle.std.proofs.Common.{◌≡◌, sym, subst}
use Rattle.std.specs.FinSet.{contains}
use Rattle.std.proofs.lemmas.List.Elements.{All-get_or}
use Rattle.cargo_platform.specs.Trees.{value_of}
use Rattle.cargo_platform.specs.Facts.{pair_of}
use Rattle.exact_answers.specs.Goals.{true_as_wanted}
use Rattle.exact_answers.specs.declared.outlook.Finding.{Finding}
use Rattle.exact_answers.specs.Inside.Ahead.{Fits, Says}
use Rattle.exact_answers.proofs.Numbers.{words_at, one_pair, open_there}
use Rattle.exact_answers.proofs.outlook.finding_of.Goals as goal

pub returns : goal.returns
returns c = λ s l p fit at.
    let table = c.args.table.now in
    let n = c.args.number in
    let w = c.index-table-number.result in
    let q = pair_of (value_of w.pair.now) in
    let fits : Fits s l w =
    subst (Fits s l) (sym c.index-table-number.is) (All-get_or (Fits s l) table n w c.requires fit) in
    let same : q ≡ p = one_pair _ n q p (words_at table n w c.requires c.index-table-number.is) at in
    let found : Finding = record { sets = c.sets_of-sets.result; seen = c.seen_of-seen.result } in
    subst (λ p. Says table l found (true_as_wanted c.args.wanted (contains s p))) same (
      c.sets_of-sets.ensures s l fits,
      c.seen_of-seen.ensures table (contains s q)
          (λ none. open_there table n w c.requires c.index-table-number.is none) fits.2,
    )
