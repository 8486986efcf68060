use Rattle.std.proofs.Common.{◌≡◌, Bool, List, ℕ, true, false, get_or, set, subst, sym, ◌∙◌}
use Rattle.std.proofs.lemmas.List.{get_or_default}
use Rattle.package_graphs.specs.Inside.Spreading.{IsList}
use Rattle.package_graphs.proofs.Waiting.{pushed}
use Rattle.package_graphs.proofs.queue.Queue.add.Goals as goal

pub returns-in_ok-push_back-clause-queue : goal.returns-in_ok-push_back-clause-queue
returns-in_ok-push_back-clause-queue c =
    let waiting : List Bool = c.args.self.now.waiting.items in
    let nodes = c.args.self.now.nodes.items in
    let node = c.args.node in
    let rests : get_or waiting node false ≡ false =
    get_or_default waiting node false c.index.result.now c.requires.known
    ∙ sym c.index.ensures
    ∙ c.if-not-index.true in
    subst (λ (xs : List ℕ). IsList (set waiting node true) xs) (sym {A = List ℕ} c.in_ok-push_back.ensures.items)
    (pushed waiting nodes node c.requires.known rests c.requires.queue)
