use Rattle.std.proofs.Common.{◌≡◌, [], ◌∷◌, ◌++◌, IsSome, sym, ap, ◌∙◌, append_assoc, append-nil, subst}
use Rattle.toml.specs.Data.{get_member}
use Rattle.toml.specs.View.{members_view}
use Rattle.toml.proofs.Views.{Entry}
use Rattle.lint_fixes.specs.Names.{old_name}
use Rattle.lint_fixes.proofs.Members.{all_push, all_names}
use Rattle.lint_fixes.proofs.NameMaps.{some_mapped}
use Rattle.lint_fixes.proofs.sameness.are_named.Goals as goal

pub loop-name-init : goal.loop-name-init
loop-name-init c = ([], cc (c.iter-name-items.ensures.rest), tt)

pub loop-name-preserved : goal.loop-name-preserved
loop-name-preserved c =
    let e : Entry = (c.in-Some.name.now, c.in-Some.field-0-1.now) in
    let (done, mine, found) = c.loop-name.invariant in
    let left = c.next.new.self in
    let here : IsSome (old_name c.args.names.now c.as_str.result.now) = some_mapped _ (sym c.contains_key.ensures
    ∙ c.if-not-contains_key.false) in (
      done ++ e ∷ [],
      mine ∙ ap (λ es. done ++ es) c.in-Some.ensures.steps ∙ sym (append_assoc done (e ∷ []) left),
      all_push _ done e found (subst (λ n. IsSome (old_name c.args.names.now n)) c.as_str.ensures.value here),
    )

pub returns : goal.returns
returns c = λ yes name h.
    let (done, mine, found) = c.loop-name.invariant in
    let all : c.args.fixed.now.entries ≡ done = mine ∙ ap (λ es. done ++ es) c.in-None.ensures.steps.0
    ∙ append-nil done in
    all_names (λ n. IsSome (old_name c.args.names.now n)) done found name (subst
    (λ es. IsSome (get_member name (members_view es))) all h)
