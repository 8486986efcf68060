use Rattle.std.proofs.Common.{◌≡◌, ◌++◌, ◌∙◌, ap, codes, flat_map, map, string_bytes}
use Rattle.cargo_platform.specs.Trees.{condition_of, value_of}
use Rattle.cargo_platform.specs.Print.{print_condition}
use Rattle.platform_answers.specs.Lines.{line}
use Rattle.platform_answers.specs.Answering.{is_match, match_word, match_outcome, warnings, warning_line}
use Rattle.platform_answers.proofs.answering.answer_query.Goals as goal

pub returns : goal.returns
returns c =
    let p = condition_of c.args.query.now.platform in
    let is : c.in_ok-is_match.field-0 ≡ is_match c.args.name.now
    (map value_of c.args.query.now.facts.items) p = c.in_ok-is_match.ensures in
    let word : c.verdict-outcome.result.0.now ≡ match_word c.in_ok-is_match.field-0 = c.verdict-outcome.ensures.word in
    let begun : string_bytes c.in_ok-text.text ≡ line (codes "condition: " ++ print_condition p) ++ line
    (codes "match: " ++ c.verdict-outcome.result.0.now) = c.in_ok-text.ensures.ok in
    let warned : map
    (λ w. string_bytes w) c.deref.result.now ≡ warnings p =
    ap (map (λ w. string_bytes w)) c.deref.ensures.value ∙ c.in_ok-warnings.ensures in
    let pushed : string_bytes c.push_warnings.new.text ≡ string_bytes c.in_ok-text.text ++ flat_map warning_line
    (map (λ w. string_bytes w) c.deref.result.now) = c.in_ok-push_warnings.ensures in (
      pushed
          ∙ (λ i. begun i ++ flat_map warning_line (warned i))
          ∙ ap (λ w. line (codes "condition: " ++ print_condition p) ++ line
          (codes "match: " ++ w) ++ flat_map warning_line (warnings p)) (word ∙ ap match_word is),
      c.verdict-outcome.ensures.outcome ∙ ap match_outcome is,
    )
