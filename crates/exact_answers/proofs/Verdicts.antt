-- What a group depends on, member by member, and what that says of the whole.
use Rattle.std.proofs.Common.{◌≡◌, ◌∙◌, refl, sym, ap, Bool, true, false, not, ◌||◌, Option, Some, None}
use Rattle.std.proofs.Common.{List, [], ◌∷◌}
use Rattle.cargo_platform.specs.Trees.{Tree, Not, trees_of}
use Rattle.cargo_platform.specs.Facts.{Pair}
use Rattle.cargo_platform.specs.Walk.{list_tree}
use Rattle.partial_facts.specs.Kleene.{kleene, kleene_not}
use Rattle.partial_facts.specs.Inside.Groups.{both}
use Rattle.partial_facts.proofs.Neutral.{neutral_first, neutral_second, settled_first, settled_second, twice_unknown}
use Rattle.std.specs.Borrow.{Bor}
use Rattle.cargo_platform.specs.declared.cfg.Cfg.{Cfg}
use Rattle.exact_answers.specs.Asking.{asks, some_asks}
use Rattle.exact_answers.specs.Inside.Searches.{as_wanted}
use Rattle.exact_answers.specs.Inside.Opening.{SaysVerdict, HangsOn}
use Rattle.exact_answers.specs.declared.opening.Verdict.{Verdict}
use Rattle.exact_answers.specs.declared.opening.Verdict.TheVariants as verdict
use Rattle.exact_answers.proofs.Telling.{or_true}

module _ (told : Pair → Option Bool) where
  -- ---- groups

  of_more : (n : Bool) (e : Tree) (es : List Tree)
      → kleene told (list_tree n (e ∷ es)) ≡ both n (kleene told e) (kleene told (list_tree n es))
  of_more true e es = refl
  of_more false e es = refl

  of_none : (n : Bool) → kleene told (list_tree n []) ≡ Some n
  of_none true = refl
  of_none false = refl

  of_one : (n : Bool) (e : Tree) → kleene told (list_tree n (e ∷ [])) ≡ kleene told e
  of_one n e = of_more n e [] ∙ ap (both n (kleene told e)) (of_none n) ∙ neutral_second n (kleene told e)

  first_asks : (n : Bool) (e : Tree) (es : List Tree) (p : Pair) → asks e p ≡ true
      → asks (list_tree n (e ∷ es)) p ≡ true
  first_asks true e es p h = ap (λ b. b || some_asks (trees_of es) p) h
  first_asks false e es p h = ap (λ b. b || some_asks (trees_of es) p) h

  others_ask : (n : Bool) (e : Tree) (es : List Tree) (p : Pair) → asks (list_tree n es) p ≡ true
      → asks (list_tree n (e ∷ es)) p ≡ true
  others_ask true e es p h = or_true (asks e p) (some_asks (trees_of es) p) h
  others_ask false e es p h = or_true (asks e p) (some_asks (trees_of es) p) h

  other : (n t : Bool) → (t ≡ n → ⊥) → t ≡ not n
  other true true h = absurd (h refl)
  other true false h = refl
  other false true h = refl
  other false false h = absurd (h refl)

  -- ---- what a whole depends on

  pub hangs_itself : (e : Tree) → HangsOn true told e e
  hangs_itself e = (refl, λ p h. h)

  pub hangs_through : (w : Bool) (whole part inner : Tree) → HangsOn w told whole part → HangsOn true told part inner
      → HangsOn w told whole inner
  hangs_through w whole part inner h k = (ap (as_wanted w) k.0 ∙ h.0, λ p a. h.1 p (k.1 p a))

  negated : (w : Bool) (x : Option Bool) → as_wanted (not w) x ≡ as_wanted w (kleene_not x)
  negated true x = refl
  negated false (Some true) = refl
  negated false (Some false) = refl
  negated false None = refl

  pub hangs_negated : (w : Bool) (whole inner : Tree) → HangsOn w told whole (Not inner)
      → HangsOn (not w) told whole inner
  hangs_negated w whole inner h = (negated w (kleene told inner) ∙ h.0, h.1)

  -- a member with the neutral truth is passed over
  pub hangs_passed : (n : Bool) (e : Tree) (es : List Tree) → kleene told e ≡ Some n
      → HangsOn true told (list_tree n (e ∷ es)) (list_tree n es)
  hangs_passed n e es h = (
    sym (of_more n e es ∙ ap (λ x. both n x (kleene told (list_tree n es))) h
        ∙ neutral_first n (kleene told (list_tree n es))),
    others_ask n e es,
  )

  pub hangs_on_last : (n : Bool) (e : Tree) → HangsOn true told (list_tree n (e ∷ [])) e
  hangs_on_last n e = (sym (of_one n e), first_asks n e [])

  -- one with the other truth settles the group
  pub settles : (n t : Bool) (e : Tree) (es : List Tree) → (t ≡ n → ⊥) → kleene told e ≡ Some t
      → kleene told (list_tree n (e ∷ es)) ≡ Some t
  settles n t e es h k =
      let is : t ≡ not n = other n t h in
      of_more n e es ∙ ap (λ x. both n x (kleene told (list_tree n es))) (k ∙ ap (λ b. Some b) is)
      ∙ settled_first n (kleene told (list_tree n es)) ∙ ap (λ b. Some b) (sym is)

  -- ---- verdicts

  open_so : (w : Bool) → as_wanted w None ≡ None
  open_so true = refl
  open_so false = refl

  says_none : (w : Bool) (whole part : Tree) → HangsOn w told whole part → kleene told part ≡ None
      → kleene told whole ≡ None
  says_none w whole part h k = sym h.0 ∙ ap (as_wanted w) k ∙ open_so w

  pub says_of_whole : (v : Verdict) (whole part : Tree) → HangsOn true told whole part → SaysVerdict v told part
      → SaysVerdict v told whole
  says_of_whole (verdict.Decided b) whole part h k = sym h.0 ∙ k
  says_of_whole (verdict.Open c) whole part h k = (says_none true whole part h k.0, (k.1.0, h.1 _ k.1.1))

  -- ---- a group whose first member is not decided

  of_open : (n : Bool) (e : Tree) (es : List Tree) → kleene told e ≡ None
      → kleene told (list_tree n (e ∷ es)) ≡ both n None (kleene told (list_tree n es))
  of_open n e es h = of_more n e es ∙ ap (λ x. both n x (kleene told (list_tree n es))) h

  second_of_open : (n : Bool) (d e : Tree) (es : List Tree) → kleene told d ≡ None
      → kleene told (list_tree n (d ∷ e ∷ es))
      ≡ both n None (both n (kleene told e) (kleene told (list_tree n es)))
  second_of_open n d e es h = of_open n d (e ∷ es) h ∙ ap (both n None) (of_more n e es)

  unsettled : (n : Bool) (x y : Option Bool) → (x ≡ Some (not n) → ⊥) → both n None (both n x y) ≡ both n None y
  unsettled true (Some true) y h = refl
  unsettled true (Some false) y h = absurd (h refl)
  unsettled false (Some true) y h = absurd (h refl)
  unsettled false (Some false) y h = refl
  unsettled n None y h = twice_unknown n y

  pub open_passed : (n : Bool) (d e : Tree) (es : List Tree) → kleene told d ≡ None
      → (kleene told e ≡ Some (not n) → ⊥)
      → kleene told (list_tree n (d ∷ es)) ≡ kleene told (list_tree n (d ∷ e ∷ es))
  open_passed n d e es h k =
      of_open n d es h
      ∙ sym (second_of_open n d e es h ∙ unsettled n (kleene told e) (kleene told (list_tree n es)) k)

  pub open_settled : (n : Bool) (d e : Tree) (es : List Tree) → kleene told d ≡ None → kleene told e ≡ Some (not n)
      → kleene told (list_tree n (d ∷ e ∷ es)) ≡ Some (not n)
  open_settled n d e es h k =
      second_of_open n d e es h
      ∙ ap (λ x. both n None (both n x (kleene told (list_tree n es)))) k
      ∙ ap (both n None) (settled_first n (kleene told (list_tree n es))) ∙ settled_second n None

  pub open_alone : (n : Bool) (d : Tree) → kleene told d ≡ None → kleene told (list_tree n (d ∷ [])) ≡ None
  open_alone n d h = of_one n d ∙ h

  -- no member after it settles the group
  pub open_stays : (n : Bool) (c : Bor Cfg) (d : Tree) (es : List Tree) → SaysVerdict (verdict.Open c) told d
      → kleene told (list_tree n (d ∷ [])) ≡ kleene told (list_tree n (d ∷ es))
      → SaysVerdict (verdict.Open c) told (list_tree n (d ∷ es))
  open_stays n c d es h k = (sym k ∙ open_alone n d h.0, (h.1.0, first_asks n d es _ h.1.1))

pub ruleset group_members = (hangs_itself, hangs_through, hangs_passed, hangs_on_last, settles, says_of_whole)

pub ruleset members_after_open = (open_passed, open_settled, open_stays)
