use Rattle.std.proofs.Common.{◌≡◌, ◌≢◌, ◌∙◌, ◌++◌, [], ◌∷◌, ℕ, List, map, ap, refl, sym, subst, lit<, rules}
use Rattle.std.proofs.lemmas.Grind.{common_steps}
use Rattle.std.proofs.lemmas.List.{map-append}
use Rattle.std.proofs.lemmas.Iterator.Consumers.{YieldsList-at, YieldsList-end}
use Rattle.std.proofs.lemmas.Iterator.Splits.{YieldsList-from_str_split}
use Rattle.std.proofs.lemmas.Str.Pattern.{strip_suffix_char}
use Rattle.std.specs.Prelude.{◌==◌}
use Rattle.std.specs.List.{slice_split}
use Rattle.cargo_platform.specs.Lines.{lines_of}
use Rattle.cargo_platform.specs.FactLines.{SpellFacts}
use Rattle.cargo_platform.proofs.FactLines.{one_more}
use Rattle.cargo_platform.proofs.Lines.{split_lines}
use Rattle.byte_answers.specs.declared.fact_texts.FactText.{FactText}
use Rattle.byte_answers.specs.FactTexts.{text_value}
use Rattle.byte_answers.proofs.fact_texts.fact_texts.Goals as goal

pub loop-line-init : goal.loop-line-init
loop-line-init c =
    let P = λ (facts : List FactText). SpellFacts [] (map text_value facts) in
    subst P (sym c.in_ok-facts.ensures.items) tt

pub loop-line-preserved : goal.loop-line-preserved
loop-line-preserved c =
    let fact = c.in-Some-fact_in.fact in
    let lines = map-append (λ x. x.now) c.loop-line.yielded (c.in-Some.line ∷ []) in
    let grown : map text_value c.push.new.self.items ≡ map text_value c.loop-line.facts.items ++ text_value fact ∷ [] =
    ap (map text_value) c.in_ok-push-in-Some-fact_in.ensures.items
    ∙ map-append text_value c.loop-line.facts.items (fact ∷ []) in
    rw (lines, grown)
    (one_more _ _ c.in-Some.line.now (text_value fact) c.loop-line.invariant c.in-Some-fact_in.ensures)

pub returns : goal.returns
returns c =
    let text = c.args.lines.now in
    let some : text ≢ [] = search (rules, common_steps) in
    let found = strip_suffix_char 10 text c.strip_suffix.result c.strip_suffix.ensures.cases (lit< tt) in
    let cut : slice_split (λ b. b == 10) c.unwrap_or.result.now ≡ lines_of text =
    ap (λ x. slice_split (λ b. b == 10) x.now) c.unwrap_or.ensures
    ∙ split_lines text c.strip_suffix.result c.args.lines refl some found in
    let parts = YieldsList-from_str_split 10 c.unwrap_or.result.now (lit< tt) c.split-line-items.ensures.text
    c.split-line-items.ensures.has_more c.split-line-items.ensures.pattern in
    let ended = YieldsList-end (YieldsList-at c.into_iter-line-iterator.ensures.into_iter_gives parts)
    c.loop-line.yielded _ c.loop-line.yielded_by _ _ c.in-None.is c.next.ensures.steps in
    let P = λ (ls : List (List ℕ)). SpellFacts ls (map text_value c.loop-line.facts.items) in
    subst P (ended.0 ∙ cut) c.loop-line.invariant
