-- The codes that hold of a key are right.
use Rattle.std.proofs.Common.{◌≡◌, ◌∙◌, ◌↔◌, refl, sym, ap, subst, true, false, true≢false, not, ◌||◌, ◌&&◌, ℕ, Bool}
use Rattle.std.proofs.Common.{List, [], IsTrue, ◌⊎◌, inl, inr}
use Rattle.std.specs.Prelude.{bytes_eq, string_bytes}
use Rattle.cargo_platform.specs.Trees.{Condition, condition_of}
use Rattle.cargo_platform.specs.declared.Platform.{Platform}
use Rattle.exact_answers.specs.declared.fact_constraints.FactConstraints.{FactConstraints}
use Rattle.manifests.specs.Declarations.{DeclaredEntry}
use Rattle.predicate_classes.specs.declared.classes.Category.TheVariants as category
use Rattle.predicate_classes.specs.Classes.{classified_by, classified_in, has_category}
use Rattle.manifest_lints_findings.specs.declared.codes.KeyLint.{KeyLint}
use Rattle.manifest_lints_findings.specs.declared.codes.KeyLint.TheVariants as code
use Rattle.manifest_lints_findings.specs.declared.known_keys.AnalysedKey.{AnalysedKey}
use Rattle.manifest_lints_findings.specs.declared.readings.ReadKey.{ReadKey}
use Rattle.manifest_lints_findings.specs.declared.readings.KeyMeaning.{KeyMeaning}
use Rattle.manifest_lints_findings.specs.declared.readings.KeyMeaning.TheVariants as spelled
use Rattle.manifest_lints_findings.specs.Known.{IsKnown, holds_alone, is_refused, is_by_cargo, is_condition}
use Rattle.manifest_lints_findings.specs.Known.{has_marked_literal, classified_of_spelled, print_spelled, IsUnknownSpelled}
use Rattle.manifest_lints_findings.specs.NoTables.{is_no_table}
use Rattle.manifest_lints_findings.specs.Spells.{IsSpelledAs, SpellsNothing, IsRead, entry_read}
use Rattle.manifest_lints.specs.Truths.{IsNever, IsAlways, CanHold, CanFail}
use Rattle.manifest_lints.specs.Earlier.{is_same, is_equivalent}
use Rattle.manifest_lints.specs.declared.earlier.Earlier.{Earlier}
use Rattle.manifests.specs.Entries.{Entry}
use Rattle.manifest_lints.specs.declared.checked_keys.Answers.{Answers}
use Rattle.manifest_lints.specs.declared.checked_keys.CheckedKey.{CheckedKey}
use Rattle.manifest_lints.specs.declared.checked_keys.TheConstants.{NONE}
use Rattle.manifest_lints.specs.CheckedKeys.{AnswersFor, applicable_codes}
use Rattle.manifest_lints.specs.Reports.{Settles, Holds, HoldsUnspelled, IsFound, MayBeOpen}
use Rattle.manifest_lints.specs.Missed.{MissesNone}
use Rattle.manifest_lints.specs.Sames.{HasSame, HasEquivalent, NamesRightly}

pub left_false : (a b : Bool) → (a || b) ≡ false → a ≡ false
left_false true b h = absurd (true≢false h)
left_false false b h = refl

pub left_or : (a b : Bool) → a ≡ true → (a || b) ≡ true
left_or true b h = refl
left_or false b h = absurd (true≢false (sym h))

pub right_or : (a b : Bool) → b ≡ true → (a || b) ≡ true
right_or true b h = refl
right_or false b h = h

pub one_or : (a b : Bool) → (a || b) ≡ true → (a ≡ true) ⊎ (b ≡ true)
one_or true b h = inl refl
one_or false b h = inr h

not_not : (b : Bool) → not (not b) ≡ b
not_not true = refl
not_not false = refl

not_true : (b : Bool) → (IsTrue b → ⊥) → b ≡ false
not_true true h = absurd (h refl)
not_true false h = refl

still_settles : (a b x : Bool) (Is IsNot : Type 0) → Settles a x Is IsNot → Settles (a || b) x Is IsNot
still_settles a b x Is IsNot s = (s.0, λ no known. s.1 no (left_false a b known))

-- beside other keys nothing more is settled, and what was right is so
pub beside_others : (k : FactConstraints) (ds : List DeclaredEntry) (c : Condition) (a : Answers) (earlier : Earlier)
    (open_too now_open : Bool) → now_open ≡ (a.is_open || open_too) → AnswersFor k ds c a
    → AnswersFor k ds c (record a { earlier = earlier; is_open = now_open })
beside_others k ds c a earlier open_too now_open is f = record {
  never = subst (λ o. Settles o a.never (IsNever k c) (CanHold k c)) (sym is)
      (still_settles a.is_open open_too a.never (IsNever k c) (CanHold k c) f.never);
  always = subst (λ o. Settles o a.always (IsAlways k c) (CanFail k c)) (sym is)
      (still_settles a.is_open open_too a.always (IsAlways k c) (CanFail k c) f.always);
  nowhere = f.nowhere;
  many = λ h. is ∙ left_or a.is_open open_too (f.many h);
  everywhere = f.everywhere;
}

-- a key that spells no condition asks for nothing, is the name of no target, and Cargo refuses or reads it
nothing_asked : (ds : List DeclaredEntry) (s : KeyMeaning) → is_condition s ≡ false → classified_of_spelled ds s ≡ []
nothing_asked ds (spelled.Condition p) h = absurd (true≢false h)
nothing_asked ds (spelled.ByCargo m) h = refl
nothing_asked ds (spelled.Refused e) h = refl

not_unknown : (s : KeyMeaning) → is_condition s ≡ false → IsUnknownSpelled s → ⊥
not_unknown (spelled.Condition p) h u = absurd (true≢false h)
not_unknown (spelled.ByCargo m) h u = u
not_unknown (spelled.Refused e) h u = u

one_of_two : (s : KeyMeaning) → is_condition s ≡ false → (is_by_cargo s || false) ≡ not (is_refused s)
one_of_two (spelled.Condition p) h = absurd (true≢false h)
one_of_two (spelled.ByCargo m) h = refl
one_of_two (spelled.Refused e) h = refl

pub spells_nothing : (text : List ℕ) (s : KeyMeaning) → is_condition s ≡ false → IsSpelledAs text s → SpellsNothing text
spells_nothing text (spelled.Condition p) h read = absurd (true≢false h)
spells_nothing text (spelled.ByCargo m) h read = read
spells_nothing text (spelled.Refused e) h read = read

module _ (k : FactConstraints) (ds : List DeclaredEntry) (r : ReadKey) (key : AnalysedKey)
    (known : IsKnown ds r key) where
  spelled_is : key.read.now.spelled ≡ r.spelled
  spelled_is = ap (λ z. z.spelled) known.read

  tables_are : holds_alone key code.NoTable ≡ is_no_table (entry_read r).1
  tables_are = ap not known.tables ∙ not_not (is_no_table (entry_read r).1)

  module _ (es : List Entry) (ns : List ℕ) (a : Answers) (p : Platform) (is : r.spelled ≡ spelled.Condition p)
      (answers : AnswersFor k ds (condition_of p) a)
      (same : IsTrue (is_same a.earlier) ↔ HasSame es (condition_of p))
      (alike : IsTrue (is_equivalent a.earlier) → HasEquivalent k es (condition_of p))
      (named : NamesRightly k es (condition_of p) a.earlier)
      (none_missed : is_equivalent a.earlier ≡ false → a.is_open ≡ false → MissesNone k es ns (condition_of p))
      (left_open : IsTrue a.is_open → MayBeOpen k ds es r.text.now (condition_of p)) where
    asked_is : classified_by key.predicates.items ≡ classified_in ds (condition_of p)
    asked_is = known.predicates ∙ ap (classified_of_spelled ds) is

    found : CheckedKey
    found = record { key = key; answers = a }

    of_spelled : (c : KeyLint) → Holds k ds es (entry_read r) (condition_of p) a.is_open c (applicable_codes found c)
    unfolding found
    of_spelled code.Refused = ap is_refused (spelled_is ∙ is)
    of_spelled code.NoTable = tables_are
    of_spelled code.ReadOtherwise =
        (λ i. is_by_cargo ((spelled_is ∙ is) i) || has_marked_literal (asked_is i))
    of_spelled code.Unsupported = ap (has_category category.Unsupported) asked_is
    of_spelled code.Never = answers.never
    of_spelled code.UnknownTarget =
        subst (λ s. IsTrue key.is_unknown_target ↔ IsUnknownSpelled s) is known.unknown_target
    of_spelled code.UnknownFact = ap (has_category category.Mistaken) asked_is
    of_spelled code.Nowhere = answers.nowhere
    of_spelled code.Same = same
    of_spelled code.Equivalent = alike
    of_spelled code.Always = answers.always
    of_spelled code.Everywhere = answers.everywhere
    of_spelled code.Custom = ap (has_category category.Custom) asked_is
    of_spelled code.NotCanonical =
        (λ i. is_condition ((spelled_is ∙ is) i)
        && not (bytes_eq ((known.canonical ∙ ap print_spelled is) i) ((ap (λ z. z.text.now) known.read) i)))

    pub found_spelled : IsRead r
        → IsFound k ds es ns (entry_read r) (applicable_codes (record { key = key; answers = a })) a.earlier a.is_open
    unfolding found
    found_spelled read = inl (record {
      condition = condition_of p;
      spelled = subst (IsSpelledAs r.text.now) is read;
      holds = of_spelled;
      named = named;
      none_missed = none_missed;
      left_open = left_open;
      many = answers.many;
    })

  module _ (es : List Entry) (ns : List ℕ) (s : KeyMeaning) (is : r.spelled ≡ s) (none : is_condition s ≡ false) where
    unspelled : CheckedKey
    unspelled = record { key = key; answers = NONE }

    none_asked : classified_by key.predicates.items ≡ []
    none_asked = known.predicates ∙ ap (classified_of_spelled ds) is ∙ nothing_asked ds s none

    of_unspelled : (c : KeyLint) → HoldsUnspelled (is_refused s) (entry_read r) c (applicable_codes unspelled c)
    unfolding unspelled
    of_unspelled code.Refused = ap is_refused (spelled_is ∙ is)
    of_unspelled code.NoTable = tables_are
    of_unspelled code.ReadOtherwise =
        (λ i. is_by_cargo ((spelled_is ∙ is) i) || has_marked_literal (none_asked i)) ∙ one_of_two s none
    of_unspelled code.Unsupported = ap (has_category category.Unsupported) none_asked
    of_unspelled code.Never = refl
    of_unspelled code.UnknownTarget =
        not_true key.is_unknown_target
        (λ h. not_unknown s none (subst IsUnknownSpelled is (known.unknown_target.0 h)))
    of_unspelled code.UnknownFact = ap (has_category category.Mistaken) none_asked
    of_unspelled code.Nowhere = refl
    of_unspelled code.Same = refl
    of_unspelled code.Equivalent = refl
    of_unspelled code.Always = refl
    of_unspelled code.Everywhere = refl
    of_unspelled code.Custom = ap (has_category category.Custom) none_asked
    of_unspelled code.NotCanonical =
        ap (λ b. b && not (bytes_eq (string_bytes key.canonical) key.read.now.text.now))
        (ap is_condition (spelled_is ∙ is) ∙ none)

    pub found_unspelled : IsRead r
        → IsFound k ds es ns (entry_read r) (applicable_codes (record { key = key; answers = NONE })) NONE.earlier
        NONE.is_open
    unfolding unspelled
    found_unspelled read = inr (record {
      nothing = spells_nothing r.text.now s none (subst (IsSpelledAs r.text.now) is read);
      is_refused = is_refused s;
      holds = of_unspelled;
      unlike = refl;
      settled = refl;
    })
