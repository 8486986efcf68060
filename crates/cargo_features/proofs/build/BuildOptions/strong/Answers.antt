use Rattle.std.proofs.Common.{◌≡◌, ◌≤◌, ◌<◌, ◌++◌, List, length, sym, subst, Option, Some, arith}
use Rattle.std.proofs.lemmas.List.{append-nil}
use Rattle.std.proofs.lemmas.Option.{slice_get_past, slice_get_read}
use Rattle.cargo_features.specs.Steps.{strong_at}
use Rattle.cargo_features.specs.declared.packages.Dependency.{Dependency}
use Rattle.cargo_features.proofs.build.BuildOptions.strong.Goals as goal

pub returns-then-entry-len : goal.returns-then-entry-len
returns-then-entry-len c =
    let deps = c.args.unit.package.now.dependencies.items in
    let past : length deps ≤ c.args.entry.place =
    omega (arith, c.if-entry-len.true, c.len.ensures, c.args.unit.package.now.dependencies.ok.0) in
    subst (λ (o : Option Dependency). c.args.steps.now.items ≡ c.args.steps.now.items
    ++ strong_at c.args.self c.args.unit.packages.now c.args.unit.at c.args.unit.package.now c.args.entry.from
    c.args.entry.place c.args.entry.feature o)
    (sym (slice_get_past deps c.args.entry.place past)) (sym (append-nil c.args.steps.now.items))

pub returns : goal.returns
returns c =
    let deps = c.args.unit.package.now.dependencies.items in
    let d : Dependency = c.index-dependency.result.now in
    let inside : c.args.entry.place < length deps =
    omega (arith, c.if-entry-len.false, c.len.ensures, c.args.unit.package.now.dependencies.ok.0) in
    subst (λ (o : Option Dependency). c.strong_at.new.steps.items ≡ c.args.steps.now.items
    ++ strong_at c.args.self c.args.unit.packages.now c.args.unit.at c.args.unit.package.now c.args.entry.from
    c.args.entry.place c.args.entry.feature o)
    (sym (slice_get_read deps (length deps) c.args.entry.place d (omega arith) inside c.index-dependency.ensures))
    c.in_ok-strong_at.ensures
