-- What the grammar of expressions changed.
use Rattle.std.proofs.Common.{◌≡◌, refl, sym, ap, subst, ◌∙◌, ℕ, Bool, true, false, not, ◌&&◌, ◌||◌, true≢false, List}
use Rattle.std.proofs.Common.{[], ◌∷◌, ◌++◌, codes, inl, inr}
use Rattle.std.proofs.lemmas.Bool.{or_parts}
use Rattle.std.specs.Prelude.{◌↔◌, IsFalse, bytes_eq, if◌then◌else◌}
use Rattle.std.specs.List.{list_any, flat_map}
use Rattle.std.proofs.lemmas.Grind.{flat_map-append}
use Rattle.std.proofs.lemmas.List.Concat.{flat_map-cons}
use Rattle.std.proofs.lemmas.List.Folds.{list_any-append}
use Rattle.cargo_platform.specs.Tokens.{Lexeme, Ident}
use Rattle.cargo_platform.specs.Cut.{lexemes}
use Rattle.cargo_platform.specs.Trees.{Name, CfgValue, Alone, KeyPair, Tree, Not, All, Any, Value, True, False, Trees}
use Rattle.cargo_platform.specs.Trees.{none, tree, Condition, Target, Expression}
use Rattle.cargo_platform.specs.Spelling.{Grammar, Expressions, is_group_word, is_literal_word, MayStand, Spells}
use Rattle.cargo_platform.specs.Spelling.{SpellMembers, SpellMembersBy}
use Rattle.cargo_platform.specs.WellFormed.{IsWellFormedBy, AreWellFormedBy, IsWellFormed, AreWellFormed}
use Rattle.cargo_platform.specs.Faults.{Fault, IsRefusedBy}
use Rattle.cargo_platform.specs.Earlier.{IsAcceptedTransitional, MayStandTransitional, SpellsTransitional}
use Rattle.cargo_platform.specs.Earlier.{SpellMembersTransitional, IsTransitionalConditionText, is_literal_name}
use Rattle.cargo_platform.specs.Earlier.{IsAcceptedReleased, MayStandReleased, SpellsReleasedLiteral, SpellsReleased}
use Rattle.cargo_platform.specs.Earlier.{IsReleasedConditionText, released, released_members}
use Rattle.cargo_platform.specs.Warnings.{values, members_values, keyword_warning, keyword_warning_at}
use Rattle.cargo_platform.specs.Warnings.{keyword_warning_of}
use Rattle.cargo_platform.specs.ChangeLaws.{is_marked_literal, SpelledReleased, IsAcceptedAsReleased}
use Rattle.cargo_platform.specs.ChangeLaws.{IsRefusedAsReleased, IsTreeTextAsReleased, KeepsTree}
use Rattle.cargo_platform.specs.ChangeLaws.{IsConditionTextAsReleased, KeepsCondition, is_literal_key}
use Rattle.cargo_platform.specs.Platforms.{IsRefusedConditionBy}
use Rattle.cargo_platform.specs.ChangeLaws.{IsRefusedForLiteralKeys, WasWellFormedWithoutMarkedLiterals}
use Rattle.cargo_platform.specs.ChangeLaws.{IsConditionRefusedAsReleased}
use Rattle.cargo_platform.specs.ChangeLaws.{IsWellFormedWithoutLiteralKeys, GivesNoKeyword}
use Rattle.cargo_platform.proofs.OneCut.{one_cut_from}
use Rattle.cargo_platform.proofs.Building.{one_built}
use Rattle.cargo_platform.proofs.WellFormedness.{spelled_well_formed}
use Rattle.cargo_platform.proofs.Roles.{bytes_eq-true}
use Rattle.cargo_platform.proofs.Conditions.{one_inner}

-- ---- literals that were keys

mutual
  -- what spells a tree spelled it then
  pub was_spelled : (e : Tree) (s : List Lexeme) → Spells e s → SpellsTransitional e s
  was_spelled (Not e) s p = (p.0, was_spelled e p.0 p.1, p.2)
  was_spelled (All es) s p = (p.0, members_were_spelled es p.0 p.1, p.2)
  was_spelled (Any es) s p = (p.0, members_were_spelled es p.0 p.1, p.2)
  was_spelled (Value (Alone n)) s p = p
  was_spelled (Value (KeyPair k v)) s p = (p.0, p.1.0)
  was_spelled True s p = p
  was_spelled False s p = p

  members_were_spelled : (es : Trees) (s : List Lexeme) → SpellMembers es s → SpellMembersTransitional es s
  members_were_spelled none s p = p
  members_were_spelled (tree e es) s (first, p, inl last) = (first, was_spelled e first p, inl last)
  members_were_spelled (tree e es) s (first, p, inr (others, is, q)) =
      (first, was_spelled e first p, inr (others, is, members_were_spelled es others q))

-- ---- marked literals

abbrev SpellMembersReleased : Trees → List Lexeme → Type 0
SpellMembersReleased = SpellMembersBy MayStandReleased SpellsReleasedLiteral

-- what a name alone spelled
lone_released : (raw : Bool) (name : List ℕ) → IsFalse (is_group_word (record { raw = raw; name = name }))
    → (not raw && is_literal_name (record { raw = raw; name = name })) ≡ false
    → SpellsReleased (released (Value (Alone (record { raw = raw; name = name })))) (Ident raw name ∷ [])
lone_released false name g l = (refl, (g, l))
lone_released true name g l =
    elim (bytes_eq name (codes "true")) as
    (λ b. bytes_eq name (codes "true") ≡ b
    → SpellsReleased
    (if b then True
    else (if bytes_eq name (codes "false") then False else Value (Alone (record { raw = true; name = name }))))
    (Ident true name ∷ [])) [
      | true ↦ λ t. (true, ap (λ z. Ident true z ∷ []) (bytes_eq-true name (codes "true") t))
      | false ↦ λ t.
          elim (bytes_eq name (codes "false")) as
          (λ b. bytes_eq name (codes "false") ≡ b
          → SpellsReleased (if b then False else Value (Alone (record { raw = true; name = name })))
          (Ident true name ∷ [])) [
            | true ↦ λ f. (true, ap (λ z. Ident true z ∷ []) (bytes_eq-true name (codes "false") f))
            | false ↦ λ f. (refl, (refl, λ i. t i || f i))
          ] refl
    ] refl

mutual
  to_released : (e : Tree) (s : List Lexeme) → SpellsTransitional e s → SpellsReleased (released e) s
  to_released (Not e) s p = (p.0, to_released e p.0 p.1, p.2)
  to_released (All es) s p = (p.0, members_to_released es p.0 p.1, p.2)
  to_released (Any es) s p = (p.0, members_to_released es p.0 p.1, p.2)
  to_released (Value (Alone n)) s p =
      rw p.0 (lone_released n.raw n.name p.1.0 p.1.1)
  to_released (Value (KeyPair k v)) s p = p
  to_released True s p = (false, p)
  to_released False s p = (false, p)

  members_to_released : (es : Trees) (s : List Lexeme) → SpellMembersTransitional es s
      → SpellMembersReleased (released_members es) s
  members_to_released none s p = p
  members_to_released (tree e es) s (first, p, inl (last, is)) =
      (first, to_released e first p, inl (ap released_members last, is))
  members_to_released (tree e es) s (first, p, inr (others, is, q)) =
      (first, to_released e first p, inr (others, is, members_to_released es others q))

picks : {A : Type 0} (m t f : Bool) (x y z : A) → (m && (t || f)) ≡ false
    → (if m && t then x else (if m && f then y else z)) ≡ z
picks false t f x y z h = refl
picks true true f x y z h = absurd (true≢false h)
picks true false true x y z h = absurd (true≢false h)
picks true false false x y z h = refl

unmarked : (n : Name) → (n.raw && is_literal_name n) ≡ false → released (Value (Alone n)) ≡ Value (Alone n)
unmarked n h =
    picks n.raw (bytes_eq n.name (codes "true")) (bytes_eq n.name (codes "false")) True False (Value (Alone n)) h

and-false-right : (m l : Bool) → l ≡ false → (m && l) ≡ false
and-false-right true l h = h
and-false-right false l h = refl

abbrev SpelledNow : Tree → List Lexeme → Type 0
SpelledNow d s = (e : Tree) × SpellsTransitional e s × (released e ≡ d)

mutual
  pub from_released : (d : Tree) (s : List Lexeme) → SpellsReleased d s → SpelledNow d s
  from_released (Not d) s p = let r = from_released d p.0 p.1 in (Not r.0, (p.0, r.1, p.2), ap Not r.2)
  from_released (All ds) s p = let r = members_from_released ds p.0 p.1 in (All r.0, (p.0, r.1, p.2), ap All r.2)
  from_released (Any ds) s p = let r = members_from_released ds p.0 p.1 in (Any r.0, (p.0, r.1, p.2), ap Any r.2)
  from_released (Value (Alone n)) s p = (
    Value (Alone n),
    (p.0, (p.1.0, and-false-right (not n.raw) (is_literal_name n) p.1.1)),
    unmarked n (and-false-right n.raw (is_literal_name n) p.1.1),
  )
  from_released (Value (KeyPair k v)) s p = (Value (KeyPair k v), p, refl)
  from_released True s (true, p) = (Value (Alone (record { raw = true; name = codes "true" })), (p, (refl, refl)), refl)
  from_released True s (false, p) = (True, p, refl)
  from_released False s (true, p) =
      (Value (Alone (record { raw = true; name = codes "false" })), (p, (refl, refl)), refl)
  from_released False s (false, p) = (False, p, refl)

  members_from_released : (ds : Trees) (s : List Lexeme) → SpellMembersReleased ds s
      → (es : Trees) × SpellMembersTransitional es s × (released_members es ≡ ds)
  members_from_released none s p = (none, p, refl)
  members_from_released (tree d ds) s (first, p, inl (last, is)) =
      let r = from_released d first p in
      (tree r.0 none, (first, r.1, inl (refl, is)), λ i. tree (r.2 i) (sym last i))
  members_from_released (tree d ds) s (first, p, inr (others, is, q)) =
      let r = from_released d first p in
      let o = members_from_released ds others q in
      (tree r.0 o.0, (first, r.1, inr (others, is, o.1)), λ i. tree (r.2 i) (o.2 i))

-- What a list of tokens spelled is determined by what it spells.
pub spelled_released : (ts : List Lexeme) → SpelledReleased ts
spelled_released ts d e p = (
  λ q.
      let r = from_released d ts q in
      sym r.2 ∙ ap released (one_built true r.0 e ts r.1 p),
  λ h. let S : Tree → Type 0 = λ z. SpellsReleased z ts in subst S (sym h) (to_released e ts p),
)

mutual
  kept : (e : Tree) → IsFalse (list_any is_marked_literal (values e)) → released e ≡ e
  kept (Not e) h = ap Not (kept e h)
  kept (All es) h = ap All (members_kept es h)
  kept (Any es) h = ap Any (members_kept es h)
  kept (Value (Alone n)) h = unmarked n (or_parts (n.raw && is_literal_name n) false h).0
  kept (Value (KeyPair k v)) h = refl
  kept True h = refl
  kept False h = refl

  members_kept : (es : Trees) → IsFalse (list_any is_marked_literal (members_values es)) → released_members es ≡ es
  members_kept none h = refl
  members_kept (tree e es) h =
      let b = or_parts _ _ (sym (list_any-append is_marked_literal (values e) (members_values es)) ∙ h) in
      let first = kept e b.0 in
      let others = members_kept es b.1 in
      λ i. tree (first i) (others i)

-- A list of tokens is accepted where it was before.
pub accepted_as_released : (ts : List Lexeme) → IsAcceptedAsReleased ts
accepted_as_released ts = (
  λ p. (released p.0, to_released p.0 ts p.1),
  λ p. let r = from_released p.0 ts p.1 in (r.0, r.1),
)

-- What is accepted tells what is refused, and with which fault.
refused_alike : (p q : List Lexeme → Type 0) → ((ts : List Lexeme) → p ts ↔ q ts)
    → (g : Grammar) (text : List ℕ) (fault : Fault)
    → IsRefusedBy p g text fault → IsRefusedBy q g text fault
refused_alike p q same g text fault r = record {
  ts = r.ts;
  tail = r.tail;
  cut = r.cut;
  prefix = r.prefix;
  after = r.after;
  is_prefix = record {
    parts = r.is_prefix.parts;
    completable = let c = r.is_prefix.completable in (c.0, c.1, (same (lexemes r.prefix ++ c.0)).0 c.2);
    longest = λ longer others h c. r.is_prefix.longest longer others h (c.0, c.1, (same (lexemes longer ++ c.0)).1 c.2);
  };
  next = r.next;
  place = r.place;
  follows = r.follows;
  accepted = r.accepted;
  is_accepted =
      (λ a. (same (lexemes r.prefix)).0 (r.is_accepted.0 a), λ a. r.is_accepted.1 ((same (lexemes r.prefix)).1 a));
  is_fault = r.is_fault;
}

-- A text is refused where it was before, with the fault of before.
pub refused_as_released : (text : List ℕ) (fault : Fault) → IsRefusedAsReleased text fault
refused_as_released text fault = (
  refused_alike IsAcceptedTransitional IsAcceptedReleased accepted_as_released Expressions text fault,
  refused_alike IsAcceptedReleased IsAcceptedTransitional
      (λ ts. let s = accepted_as_released ts in (s.1, s.0)) Expressions text fault,
)

-- A text spells a tree where it did before.
pub tree_text_as_released : (text : List ℕ) → IsTreeTextAsReleased text
tree_text_as_released text = (
  λ p. (released p.0, (p.1.0, p.1.1, to_released p.0 (lexemes p.1.0) p.1.2)),
  λ p. let r = from_released p.0 (lexemes p.1.0) p.1.2 in (r.0, (p.1.0, p.1.1, r.1)),
)

-- And the same one, if no marked literal is alone in it.
pub keeps_tree : (text : List ℕ) → KeepsTree text
keeps_tree text d e p q h =
    let same : p.0 ≡ q.0 = (one_cut_from text p.0 q.0 0 _ _ p.1 q.1).0 in
    sym ((spelled_released (lexemes q.0) d e q.2).0 (rw (← same) p.2) ∙ kept e h)

-- A text spells a condition where it did before.
pub condition_text_as_released : (text : List ℕ) → IsConditionTextAsReleased text
condition_text_as_released text = (λ p. back p.0 p.1, λ p. on p.0 p.1)
  where
    back : (p : Condition) → IsTransitionalConditionText text p → (q : Condition) × IsReleasedConditionText text q
    back (Target name) p = (Target name, p)
    back (Expression e) p = let r = (tree_text_as_released p.0).0 (e, p.2) in (Expression r.0, (p.0, p.1, r.1))

    on : (q : Condition) → IsReleasedConditionText text q → (p : Condition) × IsTransitionalConditionText text p
    on (Target name) p = (Target name, p)
    on (Expression e) p = let r = (tree_text_as_released p.0).1 (e, p.2) in (Expression r.0, (p.0, p.1, r.1))

-- And the same one, if no marked literal is alone in it.
pub keeps_condition : (text : List ℕ) → KeepsCondition text
keeps_condition text (Target m) (Target n) p q h = ap Target (q.0 ∙ sym p.0)
keeps_condition text (Target m) (Expression e) p q h = absurd (p.1 q.0 q.1)
keeps_condition text (Expression d) (Target n) p q h = absurd (q.1 p.0 p.1)
keeps_condition text (Expression d) (Expression e) p q h =
    ap Expression (keeps_tree q.0 d e (rw (← one_inner text p.0 q.0 p.1 q.1) p.2) q.2 h)

-- And it is refused as one where it was before, with the fault of before.
pub condition_refused_as_released : (text orig : List ℕ) (fault : Fault) → IsConditionRefusedAsReleased text orig fault
condition_refused_as_released text orig fault = (λ r. on r, λ r. back r)
  where
    on : IsRefusedConditionBy (IsRefusedBy IsAcceptedTransitional Expressions) text orig fault
        → IsRefusedConditionBy (IsRefusedBy IsAcceptedReleased Expressions) text orig fault
    on (inl r) = inl (r.0, (refused_as_released orig fault).0 r.1)
    on (inr r) = inr r

    back : IsRefusedConditionBy (IsRefusedBy IsAcceptedReleased Expressions) text orig fault
        → IsRefusedConditionBy (IsRefusedBy IsAcceptedTransitional Expressions) text orig fault
    back (inl r) = inl (r.0, (refused_as_released orig fault).1 r.1)
    back (inr r) = inr r

-- ---- keys

-- a name or a pair that may be in an expression now
no_key : (c : CfgValue) → MayStand c → is_literal_key c ≡ false
no_key (Alone n) m = refl
no_key (KeyPair k v) m = m.1

may_stand : (c : CfgValue) → MayStandTransitional c → is_literal_key c ≡ false → MayStand c
may_stand (Alone n) m h = m
may_stand (KeyPair k v) m h = (m, h)

abbrev pub has_literal_key : List CfgValue → Bool
has_literal_key cs = list_any is_literal_key cs

none_in : (c : CfgValue) → is_literal_key c ≡ false → has_literal_key (c ∷ []) ≡ false
none_in c h = ap (λ b. b || false) h

none_in_both : (a b : List CfgValue) → has_literal_key a ≡ false → has_literal_key b ≡ false
    → has_literal_key (a ++ b) ≡ false
none_in_both a b h k = list_any-append is_literal_key a b ∙ λ i. h i || k i

mutual
  keyless : (e : Tree) (s : List Lexeme) → Spells e s → has_literal_key (values e) ≡ false
  keyless (Not e) s p = keyless e p.0 p.1
  keyless (All es) s p = members_keyless es p.0 p.1
  keyless (Any es) s p = members_keyless es p.0 p.1
  keyless (Value c) s p = none_in c (no_key c p.1)
  keyless True s p = refl
  keyless False s p = refl

  members_keyless : (es : Trees) (s : List Lexeme) → SpellMembers es s → has_literal_key (members_values es) ≡ false
  members_keyless none s p = refl
  members_keyless (tree e es) s (first, p, inl (last, is)) =
      none_in_both (values e) (members_values es) (keyless e first p) (rw last refl)
  members_keyless (tree e es) s (first, p, inr (others, is, q)) =
      none_in_both (values e) (members_values es) (keyless e first p) (members_keyless es others q)

no_key_in : (e : Tree) (es : Trees) → has_literal_key (members_values (tree e es)) ≡ false
    → (has_literal_key (values e) ≡ false) × (has_literal_key (members_values es) ≡ false)
no_key_in e es h = or_parts _ _ (sym (list_any-append is_literal_key (values e) (members_values es)) ∙ h)

mutual
  still : (e : Tree) (s : List Lexeme) → SpellsTransitional e s → has_literal_key (values e) ≡ false → Spells e s
  still (Not e) s p h = (p.0, still e p.0 p.1 h, p.2)
  still (All es) s p h = (p.0, members_still es p.0 p.1 h, p.2)
  still (Any es) s p h = (p.0, members_still es p.0 p.1 h, p.2)
  still (Value c) s p h = (p.0, may_stand c p.1 (or_parts (is_literal_key c) false h).0)
  still True s p h = p
  still False s p h = p

  members_still : (es : Trees) (s : List Lexeme) → SpellMembersTransitional es s
      → has_literal_key (members_values es) ≡ false → SpellMembers es s
  members_still none s p h = p
  members_still (tree e es) s (first, p, inl last) h = (first, still e first p (no_key_in e es h).0, inl last)
  members_still (tree e es) s (first, p, inr (others, is, q)) h =
      let b = no_key_in e es h in
      (first, still e first p b.0, inr (others, is, members_still es others q b.1))

-- A list of tokens that spelled a tree is refused where a literal is a key in it.
pub refused_for_literal_keys : (ts : List Lexeme) → IsRefusedForLiteralKeys ts
refused_for_literal_keys ts e p = (
  λ refused.
      elim (has_literal_key (values e)) as (λ b. has_literal_key (values e) ≡ b → b ≡ true) [
        | true ↦ λ _. refl
        | false ↦ λ h. absurd (refused (e, still e ts p h))
      ] refl,
  λ h q.
      true≢false (sym (rw (← one_built true e q.0 ts p (was_spelled q.0 ts q.1)) h) ∙ keyless q.0 ts q.1),
)

-- ---- well-formed trees

-- of the allowed values, those for which the test is false
abbrev Narrows : (CfgValue → Type 0) → (CfgValue → Type 0) → (CfgValue → Bool) → Type 0
Narrows less may test = (c : CfgValue) → less c ↔ (may c × (test c ≡ false))

abbrev WellFormedWhere : (CfgValue → Type 0) → (CfgValue → Type 0) → (CfgValue → Bool) → Tree → Type 0
WellFormedWhere less may test e = IsWellFormedBy less e ↔ (IsWellFormedBy may e × IsFalse (list_any test (values e)))

abbrev AreWellFormedWhere : (CfgValue → Type 0) → (CfgValue → Type 0) → (CfgValue → Bool) → Trees → Type 0
AreWellFormedWhere less may test es = AreWellFormedBy less es
    ↔ (AreWellFormedBy may es × IsFalse (list_any test (members_values es)))

mutual
  well_formed_where : (less may : CfgValue → Type 0) (test : CfgValue → Bool) → Narrows less may test → (e : Tree)
      → WellFormedWhere less may test e
  well_formed_where less may test n (Not e) = well_formed_where less may test n e
  well_formed_where less may test n (All es) = are_well_formed_where less may test n es
  well_formed_where less may test n (Any es) = are_well_formed_where less may test n es
  well_formed_where less may test n (Value c) = (
    λ w. let m = (n c).0 w.1 in ((w.0, m.0), ap (λ b. b || false) m.1),
    λ w. (w.0.0, (n c).1 (w.0.1, (or_parts (test c) false w.1).0)),
  )
  well_formed_where less may test n True = (λ w. (w, refl), λ w. w.0)
  well_formed_where less may test n False = (λ w. (w, refl), λ w. w.0)

  are_well_formed_where : (less may : CfgValue → Type 0) (test : CfgValue → Bool) → Narrows less may test
      → (es : Trees) → AreWellFormedWhere less may test es
  are_well_formed_where less may test n none = (λ w. (w, refl), λ w. w.0)
  are_well_formed_where less may test n (tree e es) =
      let first = well_formed_where less may test n e in
      let others = are_well_formed_where less may test n es in
      let both = list_any-append test (values e) (members_values es) in (
        λ w.
            let a = first.0 w.0 in
            let b = others.0 w.1 in
            ((a.0, b.0), both ∙ λ i. a.1 i || b.1 i),
        λ w.
            let b = or_parts _ _ (sym both ∙ w.1) in
            (first.1 (w.0.0, b.0), others.1 (w.0.1, b.1)),
      )

keyless_narrows : Narrows MayStand MayStandTransitional is_literal_key
keyless_narrows (Alone n) = (λ m. (m, refl), λ m. m.0)
keyless_narrows (KeyPair k v) = (λ m. m, λ m. m)

pub well_formed_without_literal_keys : (e : Tree) → IsWellFormedWithoutLiteralKeys e
well_formed_without_literal_keys e = well_formed_where MayStand MayStandTransitional is_literal_key keyless_narrows e

either_mark : (raw l : Bool) → (not raw && l) ≡ false → (raw && l) ≡ false → l ≡ false
either_mark true l h k = k
either_mark false l h k = h

unmarked_narrows : Narrows MayStandReleased MayStandTransitional is_marked_literal
unmarked_narrows (Alone n) = (
  λ m. ((m.0, and-false-right (not n.raw) (is_literal_name n) m.1), and-false-right n.raw (is_literal_name n) m.1),
  λ m. (m.0.0, either_mark n.raw (is_literal_name n) m.0.1 m.1),
)
unmarked_narrows (KeyPair k v) = (λ m. (m, refl), λ m. m.0)

pub well_formed_without_marked_literals : (e : Tree) → WasWellFormedWithoutMarkedLiterals e
well_formed_without_marked_literals e =
    well_formed_where MayStandReleased MayStandTransitional is_marked_literal unmarked_narrows e

-- ---- keywords

no_warning : (path : List ℕ) (c : CfgValue) (n : Name) → IsFalse (is_literal_word n) → keyword_warning_at path c n ≡ []
no_warning path c n h = ap (λ b. if b then keyword_warning path c n.name ∷ [] else []) h

value_warns_not : (path : List ℕ) (c : CfgValue) → MayStand c → keyword_warning_of path c ≡ []
value_warns_not path (Alone n) m = no_warning path (Alone n) n m.1
value_warns_not path (KeyPair k v) m = no_warning path (KeyPair k v) k m.1

mutual
  warns_not : (path : List ℕ) (e : Tree) → IsWellFormed e → flat_map (keyword_warning_of path) (values e) ≡ []
  warns_not path (Not e) w = warns_not path e w
  warns_not path (All es) w = members_warn_not path es w
  warns_not path (Any es) w = members_warn_not path es w
  warns_not path (Value c) w =
      flat_map-cons (keyword_warning_of path) c []
      ∙ ap (λ (z : List (List ℕ)). z ++ flat_map (keyword_warning_of path) []) (value_warns_not path c w.1)
  warns_not path True w = refl
  warns_not path False w = refl

  members_warn_not : (path : List ℕ) (es : Trees) → AreWellFormed es
      → flat_map (keyword_warning_of path) (members_values es) ≡ []
  members_warn_not path none w = refl
  members_warn_not path (tree e es) w =
      flat_map-append (keyword_warning_of path) (values e) (members_values es)
      ∙ λ i. warns_not path e w.0 i ++ members_warn_not path es w.1 i

-- No text that is read gives a warning on a keyword.
pub gives_no_keyword : (text : List ℕ) → GivesNoKeyword text
gives_no_keyword text path (Target name) p = refl
gives_no_keyword text path (Expression e) p = warns_not path e (spelled_well_formed p.0 e p.2)
