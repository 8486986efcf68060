-- One more key among those that later ones are compared with.
use Rattle.std.proofs.Common.{◌≡◌, ◌∙◌, refl, sym, ap, subst, ℕ, ◌+◌, ◌≤◌, ◌<◌, Bool, true, false, true≢false, not}
use Rattle.std.proofs.Common.{◌&&◌, arith}
use Rattle.std.proofs.Common.{List, [], ◌∷◌, ◌++◌, length, length-append, get_or, ◌⊎◌, inl, inr, Option, Some, None}
use Rattle.std.specs.Prelude.{IsTrue, IfSome, MatchOption}
use Rattle.std.specs.Borrow.{Bor}
use Rattle.std.specs.List.{All, Any}
use Rattle.std.proofs.lemmas.List.Elements.{All-nil, All-same, All-push, All-weaker}
use Rattle.cargo_platform.specs.declared.Platform.{Platform}
use Rattle.cargo_platform.specs.Nesting.{IsNestedBeyond}
use Rattle.cargo_platform.specs.Trees.{Condition, condition_of}
use Rattle.cargo_platform.specs.Platforms.{IsConditionText}
use Rattle.exact_answers.specs.Asking.{NeedsMore}
use Rattle.exact_answers.specs.Targets.{asked_trees}
use Rattle.exact_answers.specs.declared.fact_constraints.FactConstraints.{FactConstraints}
use Rattle.manifest_lints.specs.declared.deciding.TheConstants.{MAX_NESTING}
use Rattle.manifest_lints.specs.declared.earlier.Keys.{Keys}
use Rattle.manifest_lints.specs.Earlier.{AddsMember, AreEquivalent, HasEquivalentMember, MayBeUndecided}
use Rattle.manifest_lints.specs.Truths.{budget_of}
use Rattle.manifests.specs.Declarations.{DeclaredEntry}
use Rattle.manifests.specs.Entries.{Entry}
use Rattle.predicate_classes.specs.Classes.{classified_in}
use Rattle.manifest_lints.specs.Reports.{MayBeOpen, AreTooLong, too_deep, few_beside, many_before, long_before}
use Rattle.manifest_lints.specs.Sames.{HasOne, IsOneAt, IsSpelledAt, AreMembers}
use Rattle.manifest_lints.proofs.MoreSames.{at_has, at_more, at_last, at_so}

abbrev IsSpelledBy : List Entry → ℕ × Bor Platform → Type 0
IsSpelledBy es m = IsSpelledAt es (condition_of m.1.now) m.0

pub no_members : (keys : Keys) → keys.members.items ≡ [] → AreMembers [] keys
no_members keys none =
    let long : length keys.members.items ≡ 0 = ap length none in
    record {
      spelled = All-same (IsSpelledBy []) keys.members.items [] none (All-nil (IsSpelledBy []));
      most = omega arith;
    }

spelled_more : (es : List Entry) (e : Entry) (keys : Keys) → AreMembers es keys
    → All (IsSpelledBy (es ++ e ∷ [])) keys.members.items
spelled_more es e keys before =
    All-weaker (IsSpelledBy es) (IsSpelledBy (es ++ e ∷ []))
    (λ m h. at_more (λ d. d ≡ condition_of m.1.now) es e m.0 h) keys.members.items before.spelled

pub more_members : (es : List Entry) (e : Entry) (keys : Keys) → AreMembers es keys → AreMembers (es ++ e ∷ []) keys
more_members es e keys before =
    let most : length keys.members.items ≤ length es = before.most in
    let long : length (es ++ e ∷ []) ≡ length es + 1 = length-append es (e ∷ []) in
    record { spelled = spelled_more es e keys before; most = omega arith }

pub one_member : (es : List Entry) (e : Entry) (old new : Keys) (n : ℕ) (p : Bor Platform) → AddsMember old new n p
    → AreMembers es old → IsConditionText e.0 (condition_of p.now) → length es ≡ n → AreMembers (es ++ e ∷ []) new
one_member es e old new n p (inl same) before text place =
    let most : length old.members.items ≤ length es = before.most in
    let long : length (es ++ e ∷ []) ≡ length es + 1 = length-append es (e ∷ []) in
    let as_many : length new.members.items ≡ length old.members.items = ap length same in
    record {
      spelled = All-same (IsSpelledBy (es ++ e ∷ [])) new.members.items old.members.items same
          (spelled_more es e old before);
      most = omega arith;
    }
one_member es e old new n p (inr more) before text place =
    let most : length old.members.items ≤ length es = before.most in
    let long : length (es ++ e ∷ []) ≡ length es + 1 = length-append es (e ∷ []) in
    let as_many : length new.members.items ≡ length old.members.items + 1 =
    ap length more ∙ length-append old.members.items ((n, p) ∷ []) in
    record {
      spelled = All-same (IsSpelledBy (es ++ e ∷ [])) new.members.items (old.members.items ++ (n, p) ∷ []) more
          (All-push (IsSpelledBy (es ++ e ∷ [])) old.members.items (n, p) (spelled_more es e old before)
          (at_last (λ d. d ≡ condition_of p.now) es e n place (condition_of p.now, text, refl)));
      most = omega arith;
    }

-- ---- what is told of these keys

module _ (k : FactConstraints) (es : List Entry) (old : Keys) (c : Condition) (before : AreMembers es old) where
  -- where something holds of a condition, it holds of what the key spells
  pub as_spelled : (Q : Condition → Type 0) (i : ℕ) (m : ℕ × Bor Platform) → i < length old.members.items
      → get_or old.members.items i m ≡ m → Q (condition_of m.1.now) → IsOneAt Q es m.0
  as_spelled Q i m within at so =
      at_so (λ x. x ≡ condition_of m.1.now) Q es m.0 (λ x is. subst Q (sym is) so)
      (subst (IsSpelledBy es) at (before.spelled i m within))

  equivalent_at : (n : ℕ) → HasEquivalentMember k old c n → IsOneAt (λ d. AreEquivalent k d c) es n
  equivalent_at n (i, m, within, at, (place, alike)) =
      subst (IsOneAt (λ d. AreEquivalent k d c) es) place (as_spelled (λ d. AreEquivalent k d c) i m within at alike)

  pub equivalent_one : (o : Option ℕ) → IfSome o (HasEquivalentMember k old c)
      → IfSome o (IsOneAt (λ d. AreEquivalent k d c) es)
  equivalent_one (Some n) has = equivalent_at n has
  equivalent_one None has = tt

  few_at : (splits : ℕ)
      → Any (λ (m : ℕ × Bor Platform). NeedsMore k (asked_trees (condition_of m.1.now ∷ c ∷ [])) splits)
      old.members.items → HasOne (λ d. NeedsMore k (asked_trees (d ∷ c ∷ [])) splits) es
  few_at splits (i, m, within, at, more) =
      let Q : Condition → Type 0 = λ d. NeedsMore k (asked_trees (d ∷ c ∷ [])) splits in
      at_has Q es m.0 (as_spelled Q i m within at more)

  left_true : (a b : Bool) → (a && b) ≡ true → a ≡ true
  left_true true b h = refl
  left_true false b h = h

  right_true : (a b : Bool) → (a && b) ≡ true → b ≡ true
  right_true true b h = h
  right_true false b h = absurd (true≢false (sym h))

  -- why it is not known how a key stands to these
  pub open_beside : (ds : List DeclaredEntry) (text : List ℕ) (budget : Option ℕ) (decides much undecided : Bool)
      (n : ℕ)
      → MatchOption budget ((decides ≡ true) ⊎ (IsTrue much ⊎ IsNestedBeyond text MAX_NESTING))
      (λ splits. splits ≡ budget_of n)
      → (IsTrue much → AreTooLong es text) → n ≡ length (classified_in ds c) → (IsTrue undecided
      → MayBeUndecided k budget old c)
      → (undecided && not decides) ≡ true → MayBeOpen k ds es text c
  open_beside ds text None decides much undecided n (inl decided) so long told is =
      absurd (true≢false (sym (right_true undecided (not decides) is) ∙ ap not decided))
  open_beside ds text None decides much undecided n (inr (inl far)) so long told is = long_before (so far)
  open_beside ds text None decides much undecided n (inr (inr deep)) so long told is = too_deep deep
  open_beside ds text (Some splits) decides much undecided n budget so long told is =
      elim (told (left_true undecided (not decides) is)) [
        | inl few ↦
            few_beside (subst (λ b. HasOne (λ d. NeedsMore k (asked_trees (d ∷ c ∷ [])) b) es)
            (budget ∙ ap budget_of long) (few_at splits few))
        | inr more ↦
            let most : length old.members.items ≤ length es = before.most in
            many_before (omega arith)
      ]
