use Rattle.std.proofs.Common.{◌≡◌, ◌∙◌, sym, ap, Bool, ◌||◌, List, map}
use Rattle.std.specs.FinSet.{contains, union, contains-union}
use Rattle.cargo_platform.specs.declared.cfg.Cfg.{Cfg}
use Rattle.cargo_platform.specs.Trees.{value_of}
use Rattle.cargo_platform.specs.Facts.{pair_of, fact_set}
use Rattle.cargo_platform.proofs.FactSets.{pairs_total}
use Rattle.test_by_hand.proofs.holders.JoinedFacts.holds.Goals as goal

-- where the first set's answer is known
in_either : (first second : List Cfg) (c : Cfg) (answer : Bool)
    → contains (fact_set (map value_of first)) (pair_of (value_of c)) ≡ answer →
    (answer || contains (fact_set (map value_of second)) (pair_of (value_of c))) ≡ contains
    (union (fact_set (map value_of first)) (fact_set (map value_of second))) (pair_of (value_of c))
in_either first second c answer is =
    let s = fact_set (map value_of first) in
    let t = fact_set (map value_of second) in
    let p = pair_of (value_of c) in
    sym (contains-union pairs_total s t p ∙ ap (λ b. b || contains t p) is)

pub returns-then-holds : goal.returns-then-holds
returns-then-holds c =
    c.if-holds.true
    ∙ in_either c.args.self.now.target.now c.args.self.now.build.now c.args.c.now _
    (sym c.holds.ensures ∙ c.if-holds.true)

pub returns-else-holds : goal.returns-else-holds
returns-else-holds c =
    c.holds-else-holds.ensures
    ∙ in_either c.args.self.now.target.now c.args.self.now.build.now c.args.c.now _
    (sym c.holds.ensures ∙ c.if-holds.false)
