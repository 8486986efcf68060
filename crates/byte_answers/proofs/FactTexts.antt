-- The calls of a tokenizer that go through the line of a fact, and the set of facts that borrow their texts.
use Rattle.std.proofs.Common.{◌≡◌, refl, sym, ap, ◌∙◌, ℕ, Bool, false, true≢false, List, [], ◌∷◌, ◌||◌, inl, inr}
use Rattle.std.proofs.Common.{length, map, Some, None, Ok}
use Rattle.std.specs.List.{list_any}
use Rattle.std.specs.Ordering.{eq_by_cmp}
use Rattle.std.specs.FinSet.{contains}
use Rattle.cargo_platform.specs.declared.tokens.Spanned.{Spanned}
use Rattle.cargo_platform.specs.Trees.{CfgValue, Alone, KeyPair}
use Rattle.cargo_platform.specs.Tokens.{Placed, Ident, Equals, placed}
use Rattle.cargo_platform.specs.Cut.{Token, Nothing}
use Rattle.cargo_platform.specs.Reading.{Progress, Gives, NextGives}
use Rattle.cargo_platform.specs.Spelling.{IsValueText}
use Rattle.cargo_platform.specs.Key.{value_cmp}
use Rattle.cargo_platform.specs.Facts.{pair_of, fact_set}
use Rattle.cargo_platform.proofs.FactSets.{is_listed}
use Rattle.cargo_platform.proofs.Runs.{cuts_are_read}
use Rattle.byte_answers.specs.declared.fact_texts.FactText.{FactText}
use Rattle.byte_answers.specs.FactTexts.{text_value, EndsIn}

-- ---- calls of a tokenizer

-- a call that returned a token gave it
pub token_given : (old new : Progress) (s : Spanned) → NextGives old (Some (Ok s)) new
    → Gives old new (Token (placed s))
token_given old new s (inl g) = g
token_given old new s (inr g) = absurd (let e = g.1 in cc)

-- a call that returned nothing after a token was at the end
pub end_given : (old new : Progress) → old.failed ≡ false → NextGives old None new → Gives old new Nothing
end_given old new going (inl g) = g
end_given old new going (inr g) = absurd (true≢false (sym g.0 ∙ going))

abbrev begin : List ℕ → Progress
begin text = record { text = text; place = 0; failed = false; looks = 0 }

-- one identifier is a name
pub name_spelled : (text name : List ℕ) (raw : Bool) (t : Placed) (p q : Progress) → t.token ≡ Ident raw name
    → Gives (begin text) p (Token t) → Gives p q Nothing → IsValueText text (Alone (record { raw = raw; name = name }))
name_spelled text name raw t p q is g e =
    let at_end : q.place ≡ length text = e.comes.1 ∙ ap length g.same_text in
    (t ∷ [], (cuts_are_read text (t ∷ []) (length text)).0 (p, g, (Nothing, q, refl, e, at_end)), ap (λ z. z ∷ []) is)

-- an identifier, `=` and a string are a key with its value
pub pair_spelled : (text key value : List ℕ) (raw : Bool) (t u : Placed) (p q : Progress) → t.token ≡ Ident raw key
    → u.token ≡ Equals → Gives (begin text) p (Token t) → Gives p q (Token u) → EndsIn q value
    → IsValueText text (KeyPair (record { raw = raw; name = key }) value)
pair_spelled text key value raw t u p q is equals g h e =
    let v = e.token in
    let at_end : e.end.place ≡ length text =
    e.last.comes.1 ∙ ap length (e.first.same_text ∙ h.same_text ∙ g.same_text) in (
      t ∷ u ∷ v ∷ [],
      (cuts_are_read text (t ∷ u ∷ v ∷ []) (length text)).0
          (p, g, (q, h, (e.behind, e.first, (Nothing, e.end, refl, e.last, at_end)))),
      λ i. is i ∷ equals i ∷ e.is i ∷ [],
    )

-- ---- the set of facts

same_test : (c : CfgValue) (facts : List FactText)
    → list_any (λ f. eq_by_cmp value_cmp (text_value f) c) facts
    ≡ list_any (λ f. eq_by_cmp value_cmp f c) (map text_value facts)
same_test c [] = refl
same_test c (f ∷ facts) = ap (λ b. eq_by_cmp value_cmp (text_value f) c || b) (same_test c facts)

-- whether some fact equals the value is whether its pair is in the set
pub is_in_set : (c : CfgValue) (facts : List FactText)
    → list_any (λ f. eq_by_cmp value_cmp (text_value f) c) facts
    ≡ contains (fact_set (map text_value facts)) (pair_of c)
is_in_set c facts = same_test c facts ∙ is_listed c (map text_value facts)
