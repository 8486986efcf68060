use Rattle.std.proofs.Common.{ℕ, ◌+◌, List, take, get_or, refl, sym, ◌∙◌, ap, subst, Vec, Global}
use Rattle.std.proofs.lemmas.List.{get_or_default}
use Rattle.known_targets.specs.Sets.{place}
use Rattle.package_graphs.specs.Paths.{AreShortestOf}
use Rattle.package_graphs.specs.declared.paths.PathTo.{PathTo}
use Rattle.package_graphs.proofs.Distances.{no_paths, one_path, no_path, same_shortest, same_none}
use Rattle.package_graphs.proofs.paths.shortest_paths.Goals as goal
use Rattle.package_graphs.proofs.paths.shortest_paths.Goals.{in-Some+in_ok-push, in_default}

pub packages-init : goal.packages-init
packages-init c = no_paths c.args.packages.now c.args.query c.new-paths.result.items c.new-paths.ensures.items

pub packages-preserved : goal.packages-preserved
packages-preserved c =
    let packages = c.args.packages.now in
    let query = c.args.query in
    let to = c.args.to.now in
    let i = c.packages.index-index in
    let p : ℕ = get_or to i 0 in
    let is = get_or_default to i 0 p c.packages-test.true in
    let ks = c.new.result.kinds in
    let h = c.new.result.host in
    let found = c.in_ok-found.found in
    let items : Vec PathTo Global → List PathTo = λ v. v.items in
    elim c.match-found.branch [
      | in-Some+in_ok-push w ↦
          one_path packages query to i p c.packages-test.true is c.packages.paths.items c.match-found.paths.items
          (record { to = p; steps = w.in-Some.steps }) refl (ap items w.paths-is ∙ w.in_ok-push.ensures.items)
          (same_shortest packages ks query.kinds h query.host (place query.at) query.side p c.new.ensures.kinds
          c.new.ensures.host found w.in-Some.steps w.in-Some.is c.in_ok-found.ensures.shortest)
          c.packages.invariant
      | in_default w ↦
          subst (λ (ps : List PathTo). AreShortestOf packages query (take (i + 1) to) ps) (ap items (sym w.paths-is))
          (no_path packages query to i p c.packages-test.true is c.packages.paths.items
          (same_none packages ks query.kinds h query.host (place query.at) query.side p c.new.ensures.kinds
          c.new.ensures.host found w.in_default.is c.in_ok-found.ensures.none) c.packages.invariant)
    ]
