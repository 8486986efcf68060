-- Why a key is rejected, case by case.
use Rattle.std.proofs.Common.{◌≡◌, ℕ, true, false, List, None, Some, codes, true≢false, sym, ◌∙◌, subst}
use Rattle.std.specs.declared.ops.Range.{Range}
use Rattle.cargo_platform.specs.Errors.{span_in}
use Rattle.cargo_platform.specs.FaultLaws.{IsSpanIn}
use Rattle.cargo_platform.specs.declared.error.ParseError.{ParseError}
use Rattle.key_answers.specs.Printing.{error_text, is_unclosed, is_unopened, unopened_text, IsKeyReason}

pub of_unclosed : (key : List ℕ) (e : ParseError) (s : List ℕ) → is_unclosed key ≡ true
    → s ≡ codes "it begins with `cfg(` and does not end with `)`" → IsKeyReason key e s
of_unclosed key e s is text = record {
  unclosed = λ _. text;
  unopened = λ not_unclosed. absurd (true≢false (sym is ∙ not_unclosed));
  placeless = λ not_unclosed. absurd (true≢false (sym is ∙ not_unclosed));
  other = λ not_unclosed. absurd (true≢false (sym is ∙ not_unclosed));
}

pub of_other : (key : List ℕ) (e : ParseError) (s : List ℕ) → is_unclosed key ≡ false → is_unopened key ≡ false
    → s ≡ error_text e → IsKeyReason key e s
of_other key e s not_unclosed not_opened text = record {
  unclosed = λ is. absurd (true≢false (sym is ∙ not_unclosed));
  unopened = λ _ is. absurd (true≢false (sym is ∙ not_opened));
  placeless = λ _ is. absurd (true≢false (sym is ∙ not_opened));
  other = λ _ _. text;
}

pub of_unopened : (key : List ℕ) (e : ParseError) (s : List ℕ) (at : Range ℕ) → is_unclosed key ≡ false
    → is_unopened key ≡ true → span_in e ≡ Some at → (IsSpanIn key at → s ≡ unopened_text key at) → IsKeyReason key e s
of_unopened key e s at not_unclosed is place text = record {
  unclosed = λ closed. absurd (true≢false (sym closed ∙ not_unclosed));
  unopened = λ _ _ other there within.
      let same : at ≡ other = let both : Some at ≡ Some other = sym place ∙ there in cc in
      subst (λ x. IsSpanIn key x → s ≡ unopened_text key x) same text within;
  placeless = λ _ _ none. let both : Some at ≡ None = sym place ∙ none in absurd (cc);
  other = λ _ closed. absurd (true≢false (sym is ∙ closed));
}

pub of_placeless : (key : List ℕ) (e : ParseError) (s : List ℕ) → is_unclosed key ≡ false → is_unopened key ≡ true
    → span_in e ≡ None → s ≡ error_text e → IsKeyReason key e s
of_placeless key e s not_unclosed is place text = record {
  unclosed = λ closed. absurd (true≢false (sym closed ∙ not_unclosed));
  unopened = λ _ _ at there. let both : None ≡ Some at = sym place ∙ there in absurd (cc);
  placeless = λ _ _ _. text;
  other = λ _ closed. absurd (true≢false (sym is ∙ closed));
}
