use Rattle.std.proofs.Common.{◌≡◌, ℕ, List, [], ◌∷◌, ◌++◌, Some, None, IsSome, option_map, Bor, BTreeMap}
use Rattle.std.proofs.Common.{string_bytes, sym, ap, ◌∙◌, append_assoc, append-nil, subst}
use Rattle.std.proofs.lemmas.Map.Text.{btree_map_updates_str}
use Rattle.std.specs.BTreeMap.{IsEmpty}
use Rattle.toml.specs.Data.{get_member}
use Rattle.toml.specs.View.{members_view, table_view}
use Rattle.toml.proofs.Views.{Entry}
use Rattle.lint_fixes.specs.Sameness.{renames_members}
use Rattle.lint_fixes.specs.Names.{change_at, name_in, old_name}
use Rattle.lint_fixes.proofs.Members.{all_push, all_weaken, all_names, has_name}
use Rattle.lint_fixes.proofs.NameMaps.{HasAlso, has_also, found_also, still_found, only_also, none_from}
use Rattle.lint_fixes.proofs.sameness.old_names.Goals as goal

none_in : {P : Type 0} (names : BTreeMap (Bor (List ℕ)) (Bor (List ℕ))) → IsEmpty names → (new name : List ℕ)
    → old_name names new ≡ Some name → P
none_in names empty new name h = absurd (cc (rw empty at h))

pub loop-name-init : goal.loop-name-init
loop-name-init c = (
  [],
  cc (c.iter-name-items.ensures.rest),
  tt,
  λ new name h. none_in c.new-names.result
      c.new-names.ensures.empty new name h,
)

pub loop-name-preserved : goal.loop-name-preserved
loop-name-preserved c =
    let e : Entry = (c.in-Some.name.now, c.in-Some.field-0-1.now) in
    let (done, mine, found, only) = c.loop-name.invariant in
    let name_of = name_in (renames_members (change_at c.args.place)) (table_view c.args.fixed.now) c.args.renames.now in
    let left = c.next.new.self in
    let new = c.new_name-new.result.now in
    let all : c.args.table.now.entries ≡ done ++ e ∷ left = mine ∙ ap (λ es. done ++ es) c.in-Some.ensures.steps in
    let named : c.as_str-name.result.now ≡ string_bytes e.0 = c.as_str-name.ensures.value in
    let renamed : new ≡ name_of (string_bytes e.0) = c.new_name-new.ensures ∙ ap name_of named in
    let updated = btree_map_updates_str new c.loop-name.names c.insert.new.self
    (Some c.as_str-name.result) c.in_ok-insert.ensures.updates in
    let also : HasAlso (old_name c.loop-name.names) (old_name c.insert.new.self) new c.as_str-name.result.now =
    has_also _ _ new c.as_str-name.result updated in
    let none : old_name c.loop-name.names new ≡ None = ap (option_map (λ name. name.now))
    (sym c.in_ok-insert.ensures.old ∙ none_from _ (sym c.is_some.ensures ∙ c.if-is_some.false)) in
    let here = ap (old_name c.insert.new.self) (sym renamed) ∙ found_also _ _ new c.as_str-name.result.now also
    ∙ ap Some named in
    let is_member : IsSome (get_member (string_bytes e.0) (table_view c.args.table.now)) = subst
    (λ es. IsSome (get_member (string_bytes e.0) (members_view es))) (sym all) (has_name done e left) in (
      done ++ e ∷ [],
      all ∙ sym (append_assoc done (e ∷ []) left),
      all_push _ done e (all_weaken _ _ done (λ d h. still_found _ _ new c.as_str-name.result.now also none _ _ h)
          found) here,
      only_also (λ k n. (name_of n ≡ k) × IsSome (get_member n (table_view c.args.table.now))) _ _ new
          c.as_str-name.result.now also (
            sym c.new_name-new.ensures,
            subst (λ n. IsSome (get_member n (table_view c.args.table.now)))
                (sym named) is_member,
          )
          only,
    )

pub returns : goal.returns
returns c =
    let (done, mine, found, only) = c.loop-name.invariant in
    let all : c.args.table.now.entries ≡ done = mine ∙ ap (λ es. done ++ es) c.in-None.ensures.steps.0
    ∙ append-nil done in
    let name_of = name_in (renames_members (change_at c.args.place)) (table_view c.args.fixed.now) c.args.renames.now in
    record {
      found = λ name h. all_names (λ n. old_name c.loop-name.names (name_of n)
          ≡ Some n) done found name (subst (λ es. IsSome (get_member name (members_view es))) all h);
      only = only;
    }
