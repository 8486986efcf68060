-- No `equivalent` is missed.
use Rattle.std.proofs.Common.{◌≡◌, ◌∙◌, refl, sym, ap, subst, ℕ, ◌+◌, Bool, true, false, true≢false, not}
use Rattle.std.proofs.Common.{◌&&◌, ◌||◌, arith, IsTrue}
use Rattle.std.proofs.Common.{List, [], ◌∷◌, ◌++◌, length, length-append, get_or, drop, ◌⊎◌, inl, inr}
use Rattle.std.specs.Prelude.{IfSome, Contains}
use Rattle.std.specs.Borrow.{Bor}
use Rattle.std.specs.List.{Any}
use Rattle.std.proofs.lemmas.List.{get_or_append_left, get_or_default}
use Rattle.std.proofs.lemmas.List.Elements.{Contains-append_left, Contains-append_right}
use Rattle.std.proofs.Math.Seq.{get_or-append_seam}
use Rattle.cargo_platform.specs.declared.Platform.{Platform}
use Rattle.cargo_platform.specs.Trees.{Condition, Target, Expression, condition_of}
use Rattle.cargo_platform.specs.Key.{condition_key}
use Rattle.cargo_platform.specs.Platforms.{IsConditionText}
use Rattle.cargo_platform.proofs.Conditions.{one_condition}
use Rattle.exact_answers.specs.declared.fact_constraints.FactConstraints.{FactConstraints}
use Rattle.manifests.specs.Entries.{Entry}
use Rattle.manifest_lints_findings.specs.Spells.{SpellsNothing}
use Rattle.manifest_lints.specs.Classes.{AreClassed, TellsNoneEquivalent}
use Rattle.manifest_lints.specs.Earlier.{AddsMember, AreEquivalent, HasEquivalentMember, Member, IsMemberAt}
use Rattle.manifest_lints.specs.Earlier.{is_equivalent, is_undecided, is_unlike, IsExpression, PutsUnlike}
use Rattle.manifest_lints.specs.Earlier.{same_place, equivalent_place}
use Rattle.manifest_lints.specs.Rustcs.{AllowsRustcs}
use Rattle.manifest_lints.specs.Truths.{IsNever, IsAlways, CanHold, CanFail}
use Rattle.manifest_lints.specs.declared.earlier.Earlier.{Earlier}
use Rattle.manifest_lints.specs.declared.earlier.Earlier.TheVariants as earlier
use Rattle.manifest_lints.specs.declared.earlier.Keys.{Keys}
use Rattle.manifest_lints.specs.Reports.{left_open}
use Rattle.manifest_lints.specs.Sames.{SpellsOne, HasSame, IsFirst, IsSameAs, IsSpelledAt, AreMembers}
use Rattle.manifest_lints.specs.Missed.{IsSettledAt, MissesNone, IsCovered, AreCovered}
use Rattle.manifest_lints.proofs.CheckedKeys.{one_or}
use Rattle.manifest_lints.proofs.MoreSames.{at_has, at_within, has_so}

-- ---- conditions that are as true

module _ (k : FactConstraints) where
  alike_self : (c : Condition) → AreEquivalent k c c
  alike_self c = λ name s allowed. (λ h. h, λ h. h)

  alike_then : (b c d : Condition) → AreEquivalent k b c → AreEquivalent k c d → AreEquivalent k b d
  alike_then b c d first second = λ name s allowed.
      let f = first name s allowed in
      let g = second name s allowed in
      (λ h. g.0 (f.0 h), λ h. f.1 (g.1 h))

  not_never : (d c : Condition) → AreEquivalent k d c → CanHold k c → IsNever k d → ⊥
  not_never d c alike (name, s, allowed, holds) never = never name s allowed ((alike name s allowed).1 holds)

  not_always : (d c : Condition) → AreEquivalent k d c → CanFail k c → IsAlways k d → ⊥
  not_always d c alike (name, s, allowed, fails) always = fails ((alike name s allowed).0 (always name s allowed))

  another_name : (x : List ℕ) → x ≡ 0 ∷ x → ⊥
  another_name x is = let long : length x ≡ length (0 ∷ x) = ap length is in omega arith

  -- a name is as true as itself alone
  same_or_trees : (d c : Condition) → AreEquivalent k d c → CanHold k c
      → IsSameAs c d ⊎ (IsExpression d × IsExpression c)
  same_or_trees (Target x) (Target y) alike (name, s, allowed, holds) =
      inl (ap Target ((alike name s allowed).1 holds ∙ sym holds))
  same_or_trees (Target x) (Expression e) alike (name, s, allowed, holds) =
      absurd (another_name x ((alike (0 ∷ x) s allowed).1 holds))
  same_or_trees (Expression e) (Target y) alike (name, s, allowed, holds) =
      absurd (another_name y ((alike (0 ∷ y) s allowed).0 ((alike name s allowed).1 holds)))
  same_or_trees (Expression e) (Expression f) alike holds = inr ((e, refl), (f, refl))

-- ---- a key that is told unlike all

module _ (k : FactConstraints) (es : List Entry) (ns : List ℕ) (old : Keys) (c : Condition)
    (members : AreMembers es old)
    (before : AreCovered k es ns old) where
  no_member : (r : Earlier) → TellsNoneEquivalent k old c r → IsTrue (is_unlike r) → IsExpression c
      → (d : Condition) → AreEquivalent k d c
      → Any (λ (m : Member). AreEquivalent k (condition_of m.1.now) d) old.members.items → ⊥
  no_member r tells unlike tree d alike (i, m, within, at, like) =
      let as_true : AreEquivalent k (condition_of m.1.now) c = alike_then k (condition_of m.1.now) d c like alike in
      let stands : IsMemberAt old m i = (within, λ other. get_or_default old.members.items i other m within ∙ at) in
      tells unlike tree.0 tree.1 m i stands as_true

  pub unlike_misses_none : (r : Earlier)
      → (AllowsRustcs k → AreClassed old → TellsNoneEquivalent k old c r) → IsTrue (is_unlike r)
      → MissesNone k es ns c
  unlike_misses_none r tells unlike = λ allows holds fails other d n settled alike.
      elim (same_or_trees k d c alike holds) [
        | inl same ↦
            other (has_so (λ x. x ≡ d) (IsSameAs c) es (λ x is. ap condition_key is ∙ same)
            (at_has (λ x. x ≡ d) es n settled.one))
        | inr trees ↦
            elim (before.covered d n trees.0 settled) [
              | inl member ↦
                  no_member r (tells allows before.classed) unlike trees.1 d alike member
              | inr decided ↦
                  elim decided [
                    | inl never ↦ not_never k d c alike holds never
                    | inr always ↦ not_always k d c alike fails always
                  ]
            ]
      ]

  -- none is missed by a key that is not told as true as an earlier one, and that is not left open
  pub misses_none : (r : Earlier)
      → (AllowsRustcs k → AreClassed old → TellsNoneEquivalent k old c r)
      → IsFirst (IsSameAs c) es (same_place r) → (IsTrue (is_undecided r) → IsNever k c ⊎ IsAlways k c)
      → is_equivalent r ≡ false → MissesNone k es ns c
  misses_none (earlier.Same f) tells same decided not_told = λ allows holds fails other.
      absurd (other (at_has (IsSameAs c) es f same.one))
  misses_none earlier.Unlike tells same decided not_told = unlike_misses_none earlier.Unlike tells refl
  misses_none (earlier.Equivalent f) tells same decided not_told = absurd (true≢false not_told)
  misses_none earlier.Undecided tells same decided not_told = λ allows holds fails other d n settled alike.
      elim (decided refl) [
        | inl never ↦ not_never k c c (alike_self k c) holds never
        | inr always ↦ not_always k c c (alike_self k c) fails always
      ]

-- what is undecided and not left open is never or always true
pub decided_then : (alone beside undecided decides is_open : Bool) → is_open ≡ (alone || beside)
    → beside ≡ (undecided && not decides) → is_open ≡ false → undecided ≡ true → decides ≡ true
decided_then true beside undecided decides is_open is by closed told = absurd (true≢false (sym is ∙ closed))
decided_then false beside false decides is_open is by closed told = absurd (true≢false (sym told))
decided_then false beside true true is_open is by closed told = refl
decided_then false beside true false is_open is by closed told = absurd (true≢false (sym (is ∙ by) ∙ closed))

pub never_or_always : (k : FactConstraints) (c : Condition) (never always : Bool) → (IsTrue never → IsNever k c)
    → (IsTrue always → IsAlways k c) → (never || always) ≡ true → IsNever k c ⊎ IsAlways k c
never_or_always k c never always is_never is_always one =
    elim (one_or never always one) [ inl h ↦ inl (is_never h) | inr h ↦ inr (is_always h) ]

-- ---- one more key

-- the key at a place is the last one, or stands before it
at_end : (es before after : List Entry) (e key : Entry) → es ++ e ∷ [] ≡ before ++ key ∷ after
    → ((rest : List Entry) × (es ≡ before ++ key ∷ rest)) ⊎ ((before ≡ es) × (key ≡ e))
at_end [] [] after e key is = inr (refl, sym (ap (λ xs. get_or xs 0 e) is))
at_end [] (b ∷ bs) after e key is =
    let long : length (e ∷ []) ≡ length (b ∷ (bs ++ key ∷ after)) = ap length is in
    let parts = length-append bs (key ∷ after) in
    absurd (omega arith)
at_end (x ∷ xs) [] after e key is = inl (xs, ap (λ zs. get_or zs 0 e ∷ xs) is)
at_end (x ∷ xs) (b ∷ bs) after e key is =
    let head : x ≡ b = ap (λ zs. get_or zs 0 e) is in
    elim (at_end xs bs after e key (ap (λ zs. drop 1 zs) is)) [
      | inl (rest, same) ↦ inl (rest, λ i. head i ∷ same i)
      | inr (same, last) ↦ inr ((λ i. sym head i ∷ same i), last)
    ]

some_more : (P : Member → Type 0) (old new : Keys) (n : ℕ) (p : Bor Platform) → AddsMember old new n p
    → Any P old.members.items → Any P new.members.items
some_more P old new n p (inl same) has = subst (Any P) (sym same) has
some_more P old new n p (inr more) (i, m, within, at, so) =
    let long : length (old.members.items ++ (n, p) ∷ []) ≡ length old.members.items + 1 =
    length-append old.members.items ((n, p) ∷ []) in
    subst (Any P) (sym more)
    (i, m, omega arith, get_or_append_left old.members.items ((n, p) ∷ []) m i within ∙ at, so)

last_one : (P : Member → Type 0) (old new : Keys) (m : Member) → new.members.items ≡ old.members.items ++ m ∷ []
    → P m → Any P new.members.items
last_one P old new m more so =
    let long : length (old.members.items ++ m ∷ []) ≡ length old.members.items + 1 =
    length-append old.members.items (m ∷ []) in
    subst (Any P) (sym more)
    (length old.members.items, m, omega arith, get_or-append_seam old.members.items m [] m, so)

pub none_covered : (k : FactConstraints) (ns : List ℕ) (keys : Keys) → AreClassed keys → AreCovered k [] ns keys
none_covered k ns keys classed = record {
  classed = classed;
  covered = λ d n tree settled. let within = at_within (λ x. x ≡ d) [] n settled.one in absurd (omega arith);
}

module _ (k : FactConstraints) (es : List Entry) (e : Entry) (ns more : List ℕ) (old : Keys)
    (before : AreCovered k es ns old)
  where
    -- a key that was settled before the last one
    was_settled : (d : Condition) (n : ℕ) (h : IsSettledAt (es ++ e ∷ []) (ns ++ more) d n) (rest : List Entry)
        → es ≡ h.one.before ++ h.one.key ∷ rest → IsSettledAt es ns d n
    was_settled d n h rest are =
        let one : IsSpelledAt es d n = record {
          before = h.one.before;
          key = h.one.key;
          after = rest;
          are = are;
          place = h.one.place;
          spells = h.one.spells;
        } in
        record {
          one = one;
          first = h.first;
          settled = λ has. h.settled (Contains-append_left ns more n has);
        }

    pub more_covered : (new : Keys) → AreClassed new
        → ((P : Member → Type 0) → Any P old.members.items → Any P new.members.items)
        → ((d : Condition) → IsExpression d → SpellsOne (λ x. x ≡ d) e.0 → (HasSame es d → ⊥)
        → (Contains more (length es) → ⊥) → IsCovered k new d)
        → AreCovered k (es ++ e ∷ []) (ns ++ more) new
    more_covered new classed grows last = record {
      classed = classed;
      covered = λ d n tree h.
          elim (at_end es h.one.before h.one.after e h.one.key h.one.are) [
            | inl (rest, are) ↦
                elim (before.covered d n tree (was_settled d n h rest are)) [
                  | inl has ↦ inl (grows (λ (m : Member). AreEquivalent k (condition_of m.1.now) d) has)
                  | inr decided ↦ inr decided
                ]
            | inr (same, is) ↦
                last d tree (subst (λ (x : Entry). SpellsOne (λ y. y ≡ d) x.0) is h.one.spells)
                (λ has. h.first (subst (λ xs. HasSame xs d) (sym same) has))
                (λ has. h.settled (Contains-append_right ns more n
                (subst (Contains more) (ap length (sym same) ∙ h.one.place) has)))
          ];
    }

    -- a key that spells nothing
    pub nothing_covered : SpellsNothing e.0 → AreCovered k (es ++ e ∷ []) (ns ++ more) old
    nothing_covered nothing =
        more_covered old before.classed (λ P has. has)
        (λ d tree spells other closed. absurd (nothing spells.0 spells.1))

-- a key that is not left open is not listed
not_listed : (n : ℕ) (is_open : Bool) → (Contains (left_open n is_open) n → ⊥) → is_open ≡ false
not_listed n true none = absurd (none (0, omega arith, refl))
not_listed n false none = refl

module _ (k : FactConstraints) (es : List Entry) (e : Entry) (ns : List ℕ) (old new : Keys) (n : ℕ) (p : Bor Platform)
    (before : AreCovered k es ns old) (classed : AreClassed new) (adds : AddsMember old new n p)
    (text : IsConditionText e.0 (condition_of p.now)) where
  told_covered : (r : Earlier) → PutsUnlike old new n p r
      → IfSome (equivalent_place r) (HasEquivalentMember k old (condition_of p.now))
      → IsFirst (IsSameAs (condition_of p.now)) es (same_place r)
      → (IsTrue (is_undecided r) → IsNever k (condition_of p.now) ⊎ IsAlways k (condition_of p.now))
      → IsExpression (condition_of p.now) → (HasSame es (condition_of p.now) → ⊥)
      → IsCovered k new (condition_of p.now)
  told_covered (earlier.Same f) puts alike same decided tree other =
      absurd (other (at_has (IsSameAs (condition_of p.now)) es f same.one))
  told_covered earlier.Unlike puts alike same decided tree other =
      inl (last_one (λ (m : Member). AreEquivalent k (condition_of m.1.now) (condition_of p.now)) old new (n, p)
      (puts refl tree) (alike_self k (condition_of p.now)))
  told_covered (earlier.Equivalent f) puts (i, m, within, at, (place, like)) same decided tree other =
      inl (some_more (λ (m : Member). AreEquivalent k (condition_of m.1.now) (condition_of p.now)) old new n p adds
      (i, m, within, at, like))
  told_covered earlier.Undecided puts alike same decided tree other = inr (decided refl)

  pub one_covered : (r : Earlier) (is_open : Bool) → length es ≡ n → PutsUnlike old new n p r
      → IfSome (equivalent_place r) (HasEquivalentMember k old (condition_of p.now))
      → IsFirst (IsSameAs (condition_of p.now)) es (same_place r)
      → (is_open ≡ false → IsTrue (is_undecided r) → IsNever k (condition_of p.now) ⊎ IsAlways k (condition_of p.now))
      → AreCovered k (es ++ e ∷ []) (ns ++ left_open n is_open) new
  one_covered r is_open place puts alike same decided =
      more_covered k es e ns (left_open n is_open) old before new classed
      (λ P has. some_more P old new n p adds has)
      (λ d tree spells other closed.
      let is : condition_of p.now ≡ d = one_condition e.0 (condition_of p.now) spells.0 text spells.1 ∙ spells.2 in
      let shut : is_open ≡ false =
      not_listed n is_open (λ has. closed (subst (Contains (left_open n is_open)) (sym place) has)) in
      subst (IsCovered k new) is
      (told_covered r puts alike same (decided shut) (subst IsExpression (sym is) tree)
      (λ has. other (subst (HasSame es) is has))))
