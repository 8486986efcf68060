use Rattle.std.proofs.Common.{◌≡◌, ◌≢◌, ◌∙◌, ◌+◌, ◌++◌, [], ◌∷◌, ℕ, List, Ok, map, ap, sym, subst, lit<, length, rules}
use Rattle.std.proofs.Common.{arith}
use Rattle.std.proofs.lemmas.Grind.{common_steps}
use Rattle.std.proofs.lemmas.List.{map-append, length-map}
use Rattle.std.proofs.lemmas.Iterator.Consumers.{YieldsList-at, YieldsList-so_far, YieldsList-turn, YieldsList-end}
use Rattle.std.proofs.lemmas.Iterator.Splits.{YieldsList-from_str_split}
use Rattle.cargo_platform.specs.declared.cfg.Cfg.{Cfg}
use Rattle.cargo_platform.specs.Trees.{value_of}
use Rattle.cargo_platform.specs.Lines.{lines_of}
use Rattle.cargo_platform.specs.FactLines.{SpellFacts, IsFirstNoFact}
use Rattle.cargo_platform.proofs.FactLines.{one_more, list_formed, list_back, IsRefusedLine, refused_behind}
use Rattle.cargo_platform.proofs.FactLines.{passed_on, no_list, if_line}
use Rattle.cargo_platform.proofs.fact_lines.read_facts.Goals as goal

pub returns-then-is_empty : goal.returns-then-is_empty
returns-then-is_empty c =
    let text = c.args.text.now in
    let empty : text ≡ [] = search (rules, common_steps) in
    let P = λ (ls : List (List ℕ)). λ (cs : List Cfg). SpellFacts ls (map value_of cs) in
    let facts : P (lines_of text) c.new-facts.result.items =
    subst (λ t. P (lines_of t) c.new-facts.result.items) (sym empty)
    (subst (P []) (sym c.new-facts.ensures.items) tt) in
    record {
      facts = facts;
      refused = tt;
      orig = tt;
      fault = tt;
      span = tt;
      well_formed = list_formed text (Ok c.new-facts.result) facts;
      reads_back = list_back text (Ok c.new-facts.result) facts tt;
    }

pub returns : goal.returns
returns c =
    let text = c.args.text.now in
    let some : text ≢ [] = search (rules, common_steps) in
    let parts = YieldsList-from_str_split 10 c.without_last_end.result.now (lit< tt) c.split-line-items.ensures.text
    c.split-line-items.ensures.has_more c.split-line-items.ensures.pattern in
    let ended = YieldsList-end (YieldsList-at c.into_iter-line-iterator.ensures.into_iter_gives parts)
    c.loop-line.yielded _ c.loop-line.yielded_by _ _ c.in-None.is c.next.ensures.steps in
    let P = λ (ls : List (List ℕ)). SpellFacts ls (map value_of c.loop-line.facts.items) in
    let facts = subst P (ended.0 ∙ c.without_last_end.ensures some) c.loop-line.invariant in
    record {
      facts = facts;
      refused = tt;
      orig = tt;
      fault = tt;
      span = tt;
      well_formed = list_formed text (Ok c.loop-line.facts) facts;
      reads_back = list_back text (Ok c.loop-line.facts) facts tt;
    }

pub returns-in_err-fact : goal.returns-in_err-fact
returns-in_err-fact c =
    let text = c.args.text.now in
    let some : text ≢ [] = search (rules, common_steps) in
    let parts = YieldsList-from_str_split 10 c.without_last_end.result.now (lit< tt) c.split-line-items.ensures.text
    c.split-line-items.ensures.has_more c.split-line-items.ensures.pattern in
    let road = YieldsList-at c.into_iter-line-iterator.ensures.into_iter_gives parts in
    let so_far = YieldsList-so_far road c.loop-line.yielded _ c.loop-line.yielded_by in
    let turn = YieldsList-turn road c.loop-line.yielded _ c.loop-line.yielded_by _ _ _ c.in-Some.is
    c.next.ensures.steps in
    let facts = map value_of c.loop-line.facts.items in
    let number : c.len.result + 1 ≡ length facts + 1 = omega (arith, length-map c.loop-line.facts.items value_of) in
    let e = c.in_err-fact.field-0.0 in
    let is = c.from_residual.ensures.1 in
    let P = IsRefusedLine (lines_of text) in
    let line = passed_on P e _ is
    (refused_behind (lines_of text) _ _ (length c.loop-line.yielded) (c.len.result + 1) c.in-Some.line.now facts e
    (c.without_last_end.ensures some) so_far c.loop-line.invariant turn number c.in_err-fact.ensures.numbered
    c.in_err-fact.ensures.refused c.in_err-fact.ensures.orig c.in_err-fact.ensures.span) in
    let first = if_line P (λ n e. IsFirstNoFact (lines_of text) n) _ (λ n e h. h.first) line in
    record {
      facts = no_list _ e _ is;
      refused = first;
      orig = if_line P _ _ (λ n e h. h.orig) line;
      fault = if_line P _ _ (λ n e h. h.fault) line;
      span = if_line P _ _ (λ n e h. h.span) line;
      well_formed = no_list _ e _ is;
      reads_back = list_back text _ (no_list _ e _ is) first;
    }

pub loop-line-preserved : goal.loop-line-preserved
loop-line-preserved c =
    let fact = c.in_ok-fact.fact in
    let lines = map-append (λ x. x.now) c.loop-line.yielded (c.in-Some.line ∷ []) in
    let grown : map value_of c.push.new.self.items ≡ map value_of c.loop-line.facts.items ++ value_of fact ∷ [] =
    ap (map value_of) (rw c.if-is_err.ensures.negation at c.push.ensures.items)
    ∙ map-append value_of c.loop-line.facts.items (fact ∷ []) in
    rw (lines, grown)
    (one_more _ _ c.in-Some.line.now (value_of fact) c.loop-line.invariant c.in_ok-fact.ensures.fact)

pub loop-line-init : goal.loop-line-init
loop-line-init c =
    let P = λ (cs : List Cfg). SpellFacts [] (map value_of cs) in
    subst P (sym c.new-facts.ensures.items) tt
