-- One more key among those that were noted.
use Rattle.std.proofs.Common.{◌≡◌, ◌∙◌, refl, sym, ap, subst, ℕ, ◌<◌, true≢false, List, [], ◌∷◌, length, arith}
use Rattle.std.proofs.Common.{◌++◌, append_assoc, length-append, ◌↔◌, ◌⊎◌, inl, inr, Option, Some, None, IsTrue}
use Rattle.std.specs.Prelude.{IfSome}
use Rattle.std.specs.Borrow.{Bor}
use Rattle.std.specs.declared.cmp.Ordering.{Ordering}
use Rattle.std.specs.declared.cmp.Ordering.TheVariants.{Less, Equal, Greater}
use Rattle.cargo_platform.specs.declared.Platform.{Platform}
use Rattle.cargo_platform.specs.Trees.{Condition, condition_of}
use Rattle.cargo_platform.specs.Key.{condition_key, condition_cmp}
use Rattle.cargo_platform.specs.OrderLaws.{condition_equal_iff}
use Rattle.cargo_platform.specs.Platforms.{IsConditionText}
use Rattle.cargo_platform.proofs.Conditions.{one_condition}
use Rattle.exact_answers.specs.declared.fact_constraints.FactConstraints.{FactConstraints}
use Rattle.manifest_lints.specs.declared.earlier.Earlier.{Earlier}
use Rattle.manifest_lints.specs.declared.earlier.Earlier.TheVariants as earlier
use Rattle.manifest_lints.specs.declared.earlier.Keys.{Keys}
use Rattle.manifests.specs.Entries.{Entry}
use Rattle.manifest_lints_findings.specs.Spells.{SpellsNothing}
use Rattle.manifest_lints.specs.Earlier.{noted, NotesBy, Notes, is_same, is_equivalent}
use Rattle.manifest_lints.specs.Earlier.{same_place, equivalent_place, AreEquivalent}
use Rattle.manifest_lints.specs.Sames.{SpellsOne, HasOne, IsOneAt, IsFirst, IsSameAs, HasSame, AreNoted}
use Rattle.manifest_lints.specs.Sames.{HasEquivalent, NamesRightly, named_place}

module _ (P : Condition → Type 0) where
  pub has_more : (es : List Entry) (e : Entry) → SpellsOne P e.0 ⊎ HasOne P es → HasOne P (es ++ e ∷ [])
  has_more [] e (inl s) = inl s
  has_more [] e (inr h) = absurd h
  has_more (f ∷ es) e (inl s) = inr (has_more es e (inl s))
  has_more (f ∷ es) e (inr (inl s)) = inl s
  has_more (f ∷ es) e (inr (inr h)) = inr (has_more es e (inr h))

  has_last : (es : List Entry) (e : Entry) → HasOne P (es ++ e ∷ []) → SpellsOne P e.0 ⊎ HasOne P es
  has_last [] e (inl s) = inl s
  has_last [] e (inr h) = absurd h
  has_last (f ∷ es) e (inl s) = inr (inl s)
  has_last (f ∷ es) e (inr h) = elim (has_last es e h) [ inl s ↦ inl s | inr k ↦ inr (inr k) ]

  in_middle : (xs : List Entry) (e : Entry) (ys : List Entry) → SpellsOne P e.0 → HasOne P (xs ++ e ∷ ys)
  in_middle [] e ys s = inl s
  in_middle (x ∷ xs) e ys s = inr (in_middle xs e ys s)

  -- one of which something follows
  pub has_so : (Q : Condition → Type 0) (es : List Entry) → ((d : Condition) → P d → Q d) → HasOne P es → HasOne Q es
  has_so Q [] so h = absurd h
  has_so Q (e ∷ es) so (inl (d, text, p)) = inl (d, text, so d p)
  has_so Q (e ∷ es) so (inr h) = inr (has_so Q es so h)

  -- the one at a place
  pub at_has : (es : List Entry) (n : ℕ) → IsOneAt P es n → HasOne P es
  at_has es n h = subst (HasOne P) (sym h.are) (in_middle h.before h.key h.after h.spells)

  pub at_within : (es : List Entry) (n : ℕ) → IsOneAt P es n → n < length es
  at_within es n h =
      let long : length es ≡ length (h.before ++ h.key ∷ h.after) = ap length h.are in
      let parts = length-append h.before (h.key ∷ h.after) in
      let place : length h.before ≡ n = h.place in
      omega arith

  pub at_more : (es : List Entry) (e : Entry) (n : ℕ) → IsOneAt P es n → IsOneAt P (es ++ e ∷ []) n
  at_more es e n h = record {
    before = h.before;
    key = h.key;
    after = h.after ++ e ∷ [];
    are = ap (λ xs. xs ++ e ∷ []) h.are ∙ append_assoc h.before (h.key ∷ h.after) (e ∷ []);
    place = h.place;
    spells = h.spells;
  }

  pub at_last : (es : List Entry) (e : Entry) (n : ℕ) → length es ≡ n → SpellsOne P e.0 → IsOneAt P (es ++ e ∷ []) n
  at_last es e n place spells = record {
    before = es;
    key = e;
    after = [];
    are = refl;
    place = place;
    spells = spells;
  }

  pub at_so : (Q : Condition → Type 0) (es : List Entry) (n : ℕ) → ((d : Condition) → P d → Q d) → IsOneAt P es n
      → IsOneAt Q es n
  at_so Q es n so h = record {
    before = h.before;
    key = h.key;
    after = h.after;
    are = h.are;
    place = h.place;
    spells = (h.spells.0, h.spells.1, so h.spells.0 h.spells.2);
  }

  -- a later key that spells what an earlier one does is no first one
  is_more : (es : List Entry) (e : Entry) (o : Option ℕ) → IsFirst P es o → (SpellsOne P e.0 → HasOne P es)
      → IsFirst P (es ++ e ∷ []) o
  unfolding at_more
  is_more es e (Some n) is so = record { one = at_more es e n is.one; first = is.first }
  is_more es e None is so = λ h. elim (has_last es e h) [ inl s ↦ is (so s) | inr k ↦ is k ]

-- what the text of a condition spells is it
spelled_key : (text : List ℕ) (c d : Condition) → IsConditionText text c → SpellsOne (IsSameAs d) text
    → condition_key c ≡ condition_key d
spelled_key text c d t (x, u, key) = ap condition_key (one_condition text c x t u) ∙ key

-- two conditions are the same, or they are not
or_not : (K : Type 0) (o : Ordering) → ((o ≡ Equal) ↔ K) → K ⊎ (K → ⊥)
or_not K Less is = inr (λ h. let e : Less ≡ Equal = is.1 h in absurd cc)
or_not K Equal is = inl (is.0 refl)
or_not K Greater is = inr (λ h. let e : Greater ≡ Equal = is.1 h in absurd cc)

same_or_not : (c d : Condition)
    → (condition_key c ≡ condition_key d) ⊎ (condition_key c ≡ condition_key d → ⊥)
same_or_not c d = or_not (condition_key c ≡ condition_key d) (condition_cmp c d) (condition_equal_iff c d)

pub none_noted : (keys : Keys) → ((q : Bor Platform) → noted keys q ≡ None) → AreNoted [] keys
none_noted keys none = λ q. subst (IsFirst (IsSameAs (condition_of q.now)) []) (sym (none q)) (λ h. h)

module _ (es : List Entry) (e : Entry) (old new : Keys) (n : ℕ) (p : Bor Platform) (before : AreNoted es old)
    (text : IsConditionText e.0 (condition_of p.now)) (place : length es ≡ n) where
  as_noted : (o : Option ℕ) → noted old p ≡ o → IsFirst (IsSameAs (condition_of p.now)) es o
  as_noted o is = subst (IsFirst (IsSameAs (condition_of p.now)) es) is (before p)

  noted_by : (o : Option ℕ) → noted old p ≡ o → NotesBy o old new n (condition_of p.now) → AreNoted (es ++ e ∷ []) new
  unfolding at_last
  noted_by (Some first) is stays = λ q.
      let c = condition_of p.now in
      let d = condition_of q.now in
      subst (IsFirst (IsSameAs d) (es ++ e ∷ [])) (sym (stays q))
      (is_more (IsSameAs d) es e (noted old q) (before q)
      (λ s. has_so (IsSameAs c) (IsSameAs d) es (λ x key. key ∙ spelled_key e.0 c d text s)
      (at_has (IsSameAs c) es first (as_noted (Some first) is).one)))
  noted_by None is adds = λ q.
      let c = condition_of p.now in
      let d = condition_of q.now in
      elim (same_or_not c d) [
        | inl same ↦
            subst (IsFirst (IsSameAs d) (es ++ e ∷ [])) (sym ((adds q).0 same)) (record {
              one = at_last (IsSameAs d) es e n place (c, text, same);
              first = λ h. as_noted None is (has_so (IsSameAs d) (IsSameAs c) es (λ x key. key ∙ sym same) h);
            })
        | inr other ↦
            subst (IsFirst (IsSameAs d) (es ++ e ∷ [])) (sym ((adds q).1 other))
            (is_more (IsSameAs d) es e (noted old q) (before q) (λ s. absurd (other (spelled_key e.0 c d text s))))
      ]

  -- the key's condition was noted
  pub one_noted : Notes old new n p → AreNoted (es ++ e ∷ []) new
  one_noted notes = noted_by (noted old p) refl notes

-- a key that spells nothing is the same as none
pub none_more : (es : List Entry) (e : Entry) (keys : Keys) → AreNoted es keys → SpellsNothing e.0
    → AreNoted (es ++ e ∷ []) keys
none_more es e keys before nothing = λ q.
    is_more (IsSameAs (condition_of q.now)) es e (noted keys q) (before q) (λ s. absurd (nothing s.0 s.1))

-- ---- what is told of earlier keys

module _ (k : FactConstraints) (es : List Entry) (c : Condition) where
  pub tells_same : (a : Earlier) → IsFirst (IsSameAs c) es (same_place a) → IsTrue (is_same a) ↔ HasSame es c
  tells_same (earlier.Same n) is = (λ h. at_has (IsSameAs c) es n is.one, λ h. refl)
  tells_same earlier.Unlike is = (λ h. absurd (true≢false (sym h)), λ h. absurd (is h))
  tells_same (earlier.Equivalent n) is = (λ h. absurd (true≢false (sym h)), λ h. absurd (is h))
  tells_same earlier.Undecided is = (λ h. absurd (true≢false (sym h)), λ h. absurd (is h))

  pub tells_equivalent : (a : Earlier) → IfSome (equivalent_place a) (IsOneAt (λ d. AreEquivalent k d c) es)
      → IsTrue (is_equivalent a) → HasEquivalent k es c
  tells_equivalent (earlier.Same n) is h = absurd (true≢false (sym h))
  tells_equivalent earlier.Unlike is h = absurd (true≢false (sym h))
  tells_equivalent (earlier.Equivalent n) is h = at_has (λ d. AreEquivalent k d c) es n is
  tells_equivalent earlier.Undecided is h = absurd (true≢false (sym h))

  pub names_rightly : (a : Earlier) → IsFirst (IsSameAs c) es (same_place a)
      → IfSome (equivalent_place a) (IsOneAt (λ d. AreEquivalent k d c) es) → NamesRightly k es c a
  names_rightly (earlier.Same n) same alike = same
  names_rightly earlier.Unlike same alike = tt
  names_rightly (earlier.Equivalent n) same alike = alike
  names_rightly earlier.Undecided same alike = tt

  -- a key that is named stands before
  pub named_within : (a : Earlier) → NamesRightly k es c a → IfSome (named_place a) (λ n. n < length es)
  named_within (earlier.Same n) is = at_within (IsSameAs c) es n is.one
  named_within earlier.Unlike is = tt
  named_within (earlier.Equivalent n) is = at_within (λ d. AreEquivalent k d c) es n is
  named_within earlier.Undecided is = tt
