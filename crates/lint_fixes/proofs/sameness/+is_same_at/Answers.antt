use Rattle.std.proofs.Common.{◌≡◌, [], ◌∷◌, ◌++◌, Some, IfSome, option_map, string_bytes, sym, ap, ◌∙◌, append_assoc}
use Rattle.std.proofs.Common.{append-nil, subst}
use Rattle.toml.specs.Data.{Data, get_member}
use Rattle.toml.specs.View.{view, members_view, table_view}
use Rattle.toml.proofs.Views.{Entry}
use Rattle.lint_fixes.specs.Sameness.{IsSameBut, member_of, renames_members}
use Rattle.lint_fixes.specs.Names.{AreOldNames, IsRename, change_at, name_in}
use Rattle.lint_fixes.proofs.Members.{all_push, all_members}
use Rattle.lint_fixes.proofs.Renaming.{are_renamed}
use Rattle.lint_fixes.proofs.sameness.+is_same_at.Goals as goal

pub have_same_members-loop-name-init : goal.have_same_members-loop-name-init
have_same_members-loop-name-init t c = ([], cc (c.iter-name-items.ensures.rest), tt)

pub have_same_members-loop-name-preserved : goal.have_same_members-loop-name-preserved
have_same_members-loop-name-preserved t c =
    let e : Entry = (c.in-Some-2.name.now, c.in-Some-2.value.now) in
    let (done, mine, kept) = c.loop-name.invariant in
    let left = c.next.new.self in
    let change = change_at c.args.place in
    let fixed = table_view c.args.fixed.now in
    let name_of = name_in (renames_members change) fixed c.args.renames.now in
    let other = view c.in-Some-member_in.other.now in
    let named : c.as_str-name.result.now ≡ string_bytes e.0 = c.as_str-name.ensures.value in
    let renamed : c.new_name.result.now ≡ name_of (string_bytes e.0) = c.new_name.ensures ∙ ap name_of named in
    let found : get_member c.new_name.result.now fixed ≡ Some other = sym c.member_in.ensures
    ∙ ap (option_map (λ it. view it.now)) c.in-Some-member_in.is in
    let below : change_at c.member.result ≡ member_of change (string_bytes e.0) = c.member.ensures
    ∙ ap (member_of change) named in
    let same : IsSameBut (change_at c.member.result) (IsRename c.args.renames.now)
    (view e.1) other = c.in_ok-is_same_at.ensures c.if-not-branch.false in (
      done ++ e ∷ [],
      mine ∙ ap (λ es. done ++ es) c.in-Some-2.ensures.steps ∙ sym (append_assoc done (e ∷ []) left),
      all_push _ done e kept (
        other,
        ap (λ n. get_member n fixed) (sym renamed) ∙ found,
        subst (λ x. IsSameBut x (IsRename c.args.renames.now) (view e.1) other) below same,
      ),
    )

pub have_same_members-returns : goal.have_same_members-returns
have_same_members-returns t c = λ yes.
    let (done, mine, kept) = c.loop-name.invariant in
    let all : c.args.table.now.entries ≡ done = mine ∙ ap (λ es. done ++ es) c.in-None.ensures.steps.0
    ∙ append-nil done in
    let change = change_at c.args.place in
    let old = table_view c.args.table.now in
    let fixed = table_view c.args.fixed.now in
    let name_of = name_in (renames_members change) fixed c.args.renames.now in
    let are : AreOldNames name_of old c.in-Some.names = subst (λ o. IfSome o
    (AreOldNames name_of old)) c.in-Some.is c.in_ok-names.ensures in
    are_renamed (renames_members change) c.args.renames.now (λ name. IsSameBut (member_of change name)
    (IsRename c.args.renames.now)) old fixed c.in-Some.names are
    (c.are_named.ensures c.if-not-are_named.false)
    (λ name value h. all_members (λ n v. (other : Data) × (get_member (name_of n) fixed
    ≡ Some other) × IsSameBut (member_of change n) (IsRename c.args.renames.now) v other)
    done kept name value (subst (λ es. get_member name (members_view es) ≡ Some value) all h))
