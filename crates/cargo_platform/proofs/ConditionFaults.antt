-- A text is accepted as a condition, or it is refused, with one fault.
use Rattle.std.proofs.Common.{◌≡◌, refl, sym, ap, ◌∙◌, ℕ, ◌==◌, Bool, true, false, true≢false, List, [], ◌∷◌}
use Rattle.std.proofs.Common.{◌++◌, length, length-append, take, drop, ◌-◌, codes, Option, Some, None, MatchOption}
use Rattle.std.proofs.Common.{find, not, IsTrue, IsFalse, IsUtf8, inl, inr, ◌⊎◌, chars, encode_utf8, encode_utf8_all}
use Rattle.std.proofs.Common.{append_assoc, arith, lit≤}
use Rattle.std.specs.List.{list_all, list_any}
use Rattle.std.proofs.Math.Seq.{take-append_seam}
use Rattle.std.proofs.lemmas.Bool.{and_parts}
use Rattle.std.proofs.lemmas.Slice.Eq.{bytes_eq-Decides}
use Rattle.std.proofs.lemmas.Str.{encode_same}
use Rattle.std.specs.Prelude.{bytes_eq}
use Rattle.cargo_platform.specs.Trees.{Tree, Condition, Target, Expression}
use Rattle.cargo_platform.specs.Spelling.{Expressions, IsTreeText}
use Rattle.cargo_platform.specs.Faults.{Fault, InvalidTarget}
use Rattle.cargo_platform.specs.Platforms.{is_target_char, IsTargetName, IsCfgOf, IsBare, IsFirstRefused}
use Rattle.cargo_platform.specs.Platforms.{IsTargetMessage, IsConditionText, IsRefusedCondition}
use Rattle.cargo_platform.specs.Platforms.{IsConditionRefusal}
use Rattle.cargo_platform.specs.TextLaws.{SpellsOrIsRefused}
use Rattle.cargo_platform.proofs.OneFault.{one_fault}
use Rattle.cargo_platform.proofs.SomeFault.{spells_or_is_refused}
use Rattle.cargo_platform.proofs.SomeCut.{ascii_sides}
use Rattle.cargo_platform.proofs.TargetNames.{first_refused_found, same_option, first_parts, message_is_no_name}
use Rattle.cargo_platform.proofs.Conditions.{one_inner}
use Rattle.cargo_platform.proofs.Refused.{refused_spells_none}

-- ---- `cfg(..)` or not

-- the text is what is around the only inner text that it may have, or it has none
cfg_or_bare : (text : List ℕ) → ((inner : List ℕ) × IsCfgOf text inner) ⊎ IsBare text
cfg_or_bare text =
    let inner = take (length text - 5) (drop 4 text) in
    let around : List ℕ → List ℕ = λ z. codes "cfg(" ++ z ++ codes ")" in
    elim (bytes_eq text (around inner)) as
    (λ z. bytes_eq text (around inner) ≡ z → ((inner : List ℕ) × IsCfgOf text inner) ⊎ IsBare text) [
      | true ↦ λ same. inl (inner, (bytes_eq-Decides text (around inner)).0 same)
      | false ↦ λ apart. inr (λ other h.
          let size : length (around other) - 5 ≡ length other = omega (arith, length-append other (codes ")")) in
          let only : inner ≡ other = ap (λ (z : List ℕ). take (length z - 5) (drop 4 z)) h
          ∙ ap (λ n. take n (other ++ codes ")")) size ∙ take-append_seam other (codes ")") in
          true≢false (sym ((bytes_eq-Decides text (around inner)).1 (h ∙ ap around (sym only))) ∙ apart))
    ] refl

-- between `cfg(` and `)` is a text of characters
pub inner_utf8 : (text inner : List ℕ) → IsUtf8 text → IsCfgOf text inner → IsUtf8 inner
inner_utf8 text inner u h =
    let behind = (ascii_sides 0x28 text (codes "cfg") (inner ++ codes ")") (lit≤ tt) u h).1 in
    (ascii_sides 0x29 (inner ++ codes ")") inner [] (lit≤ tt) behind refl).0

-- ---- a target name or not

some_message : (text : List ℕ) (c : ℕ) → IsFirstRefused text c → (message : List ℕ) × IsTargetMessage text message
some_message text c first =
    elim (list_any (λ d. d == 0x28) text) as
    (λ z. list_any (λ d. d == 0x28) text ≡ z → (message : List ℕ) × IsTargetMessage text message) [
      | true ↦ λ held. (codes "unexpected `(` character, cfg expressions must start with `cfg(`", inl (held, refl))
      | false ↦ λ none.
          (codes "unexpected character " ++ encode_utf8 c ++ codes " in target name", inr (none, (c, first, refl)))
    ] refl

bare_text : (text : List ℕ) (o : Option ℕ) → IsBare text
    → MatchOption o (IsTargetName text) (λ c. IsFirstRefused text c)
    → SpellsOrIsRefused IsConditionText IsConditionRefusal text
bare_text text None bare name = inl (Target text, (refl, bare, name))
bare_text text (Some c) bare first =
    let m = some_message text c first in
    inr ((text, InvalidTarget m.0), inr (bare, refl, (m.0, m.1, refl)))

-- a text of characters spells a condition, or is refused
pub spells_condition_or_is_refused : (text : List ℕ) → IsUtf8 text
    → SpellsOrIsRefused IsConditionText IsConditionRefusal text
spells_condition_or_is_refused text u =
    elim (cfg_or_bare text) [
      | inr bare ↦
          let first = find (λ c. not (is_target_char c)) (chars text) in
          bare_text text first bare (first_refused_found text first u (same_option first))
      | inl cfg ↦
          elim (spells_or_is_refused Expressions cfg.0 (inner_utf8 text cfg.0 u cfg.1)) [
            | inl e ↦ inl (Expression e.0, (cfg.0, cfg.1, e.1))
            | inr f ↦ inr ((cfg.0, f.0), inl (cfg.1, f.1))
          ]
    ]

-- ---- one fault

fails_behind : (t : ℕ → Bool) (g : ℕ) (gs after others : List ℕ) (c : ℕ) → IsFalse (t c) → IsTrue (list_all t (g ∷ gs))
    → encode_utf8 c ++ after ≡ encode_utf8_all (g ∷ gs) ++ others → ⊥
fails_behind t g gs after others c fails all e =
    let same = encode_same c g after _ (e ∙ append_assoc (encode_utf8 g) (encode_utf8_all gs) others) in
    true≢false (sym (and_parts _ _ all).0 ∙ sym (ap t same.0) ∙ fails)

-- two first characters that fail a test are the same
one_first : (t : ℕ → Bool) (fs gs after others : List ℕ) (c d : ℕ) → IsFalse (t c) → IsFalse (t d)
    → IsTrue (list_all t fs) → IsTrue (list_all t gs)
    → encode_utf8_all fs ++ (encode_utf8 c ++ after) ≡ encode_utf8_all gs ++ (encode_utf8 d ++ others) → c ≡ d
one_first t [] [] after others c d fails fails_too all all_too e = (encode_same c d after others e).0
one_first t [] (g ∷ gs) after others c d fails fails_too all all_too e =
    absurd (fails_behind t g gs after (encode_utf8 d ++ others) c fails all_too e)
one_first t (f ∷ fs) [] after others c d fails fails_too all all_too e =
    absurd (fails_behind t f fs others (encode_utf8 c ++ after) d fails_too all (sym e))
one_first t (f ∷ fs) (g ∷ gs) after others c d fails fails_too all all_too e =
    let same = encode_same f g _ _
    (sym (append_assoc (encode_utf8 f) (encode_utf8_all fs) (encode_utf8 c ++ after)) ∙ e
    ∙ append_assoc (encode_utf8 g) (encode_utf8_all gs) (encode_utf8 d ++ others)) in
    one_first t fs gs after others c d fails fails_too (and_parts _ _ all).1 (and_parts _ _ all_too).1 same.1

pub one_first_refused : (text : List ℕ) (c d : ℕ) → IsFirstRefused text c → IsFirstRefused text d → c ≡ d
one_first_refused text c d p q =
    one_first is_target_char p.3.0 q.3.0 p.4.0 q.4.0 c d p.5 q.5 p.3.3 q.3.3
    (sym (first_parts text c p) ∙ first_parts text d q)

one_message : (text m n : List ℕ) → IsTargetMessage text m → IsTargetMessage text n → m ≡ n
one_message text m n (inl p) (inl q) = p.1 ∙ sym q.1
one_message text m n (inl p) (inr q) = absurd (true≢false (sym p.0 ∙ q.0))
one_message text m n (inr p) (inl q) = absurd (true≢false (sym q.0 ∙ p.0))
one_message text m n (inr p) (inr q) =
    p.1.2 ∙ ap
    (λ c. codes "unexpected character " ++ encode_utf8 c ++ codes " in target name")
    (one_first_refused text p.1.0 q.1.0 p.1.1 q.1.1) ∙ sym q.1.2

-- a text has at most one fault as a condition, of one text
pub one_condition_fault : (text o p : List ℕ) (e f : Fault) → IsRefusedCondition text o e → IsRefusedCondition text p f
    → (o ≡ p) × (e ≡ f)
one_condition_fault text o p e f (inl a) (inl b) =
    let same = one_inner text o p a.0 b.0 in
    (same, one_fault Expressions p e f (rw (← same) a.1) b.1)
one_condition_fault text o p e f (inl a) (inr b) = absurd (b.0 o a.0)
one_condition_fault text o p e f (inr a) (inl b) = absurd (a.0 p b.0)
one_condition_fault text o p e f (inr a) (inr b) =
    (a.1 ∙ sym b.1, a.2.2 ∙ ap InvalidTarget (one_message text a.2.0 b.2.0 a.2.1 b.2.1) ∙ sym b.2.2)

-- where no expression is spelled between `cfg(` and `)`, no condition is
none_spelled : (text inner : List ℕ) → IsCfgOf text inner → ((t : Tree) → IsTreeText inner t → ⊥) → (p : Condition)
    → IsConditionText text p → ⊥
none_spelled text inner h none (Target name) s = s.1 inner h
none_spelled text inner h none (Expression t) s =
    none t (rw (← one_inner text s.0 inner s.1 h) s.2)

-- a text that is refused spells no condition
pub refused_spells_no_condition : (text orig : List ℕ) (fault : Fault) → IsRefusedCondition text orig fault
    → (p : Condition) → IsConditionText text p → ⊥
refused_spells_no_condition text orig fault (inl r) p s =
    none_spelled text orig r.0 (λ e t. refused_spells_none orig fault e r.1 t) p s
refused_spells_no_condition text orig fault (inr r) (Target name) s = message_is_no_name text r.2.0 r.2.1 s.2
refused_spells_no_condition text orig fault (inr r) (Expression e) s = r.0 s.0 s.1
