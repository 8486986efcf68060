use Rattle.std.proofs.Common.{◌≡◌, ap, arith, ◌∙◌, subst, Option, Result, Some, Ok}
use Rattle.std.proofs.lemmas.Grind.{common_steps}
use Rattle.cargo_platform.specs.declared.tokens.Spanned.{Spanned}
use Rattle.cargo_platform.specs.declared.tokens.TokenFault.{TokenFault}
use Rattle.cargo_platform.specs.Tokens.{Ident, Equals, placed}
use Rattle.cargo_platform.specs.Cut.{Token}
use Rattle.cargo_platform.specs.Reading.{Progress, Gives, NextCall}
use Rattle.byte_answers.proofs.FactTexts.{name_spelled, pair_spelled, token_given, end_given}
use Rattle.byte_answers.proofs.fact_texts.fact_in.Goals as goal

-- what a call gave that returned this token
given_by : (old new : Progress) (r : Option (Result Spanned TokenFault)) (x : Result Spanned TokenFault) (s : Spanned)
    → NextCall old r new → r ≡ Some x → x ≡ Ok s → Gives old new (Token (placed s))
given_by old new r x s call is ok =
    let found : r ≡ Some (Ok s) = is ∙ ap Some ok in
    token_given old new s (subst (λ (z : Option (Result Spanned TokenFault)). NextCall old z new) found call).gives

pub returns-in-None : goal.returns-in-None
returns-in-None c =
    let s = c.in-Some-Ok-Ident.field-0-0 in
    let g = rw c.new-tokens.ensures at (given_by c.new-tokens.result c.next.new.self c.next.result
    c.in-Some-Ok-Ident.field-0 s c.next.ensures.steps c.in-Some-Ok-Ident.is c.in-Some-Ok-Ident.field-0-is) in
    let is : (placed s).token ≡ Ident c.in-Some-Ok-Ident.raw c.in-Some-Ok-Ident.name.now =
    grind (arith, common_steps) in
    name_spelled c.args.line.now c.in-Some-Ok-Ident.name.now c.in-Some-Ok-Ident.raw (placed s) c.next.new.self
    c.next-2.new.self is g (end_given c.next.new.self c.next-2.new.self g.failed_is c.in-None.ensures.steps.gives)

pub returns-in_ok-value-in-Some-Ok-Equals : goal.returns-in_ok-value-in-Some-Ok-Equals
returns-in_ok-value-in-Some-Ok-Equals c =
    let s = c.in-Some-Ok-Ident.field-0-0 in
    let t = c.in-Some-Ok-Equals.field-0-0 in
    let g = rw c.new-tokens.ensures at (given_by c.new-tokens.result c.next.new.self c.next.result
    c.in-Some-Ok-Ident.field-0 s c.next.ensures.steps c.in-Some-Ok-Ident.is c.in-Some-Ok-Ident.field-0-is) in
    let h = given_by c.next.new.self c.next-2.new.self c.next-2.result c.in-Some-Ok-Equals.field-0 t
    c.next-2.ensures.steps c.in-Some-Ok-Equals.is c.in-Some-Ok-Equals.field-0-is in
    let is : (placed s).token ≡ Ident c.in-Some-Ok-Ident.raw c.in-Some-Ok-Ident.name.now =
    grind (arith, common_steps) in
    let equals : (placed t).token ≡ Equals = grind (arith, common_steps) in
    pair_spelled c.args.line.now c.in-Some-Ok-Ident.name.now c.in_ok-value-in-Some-Ok-Equals.value.now
    c.in-Some-Ok-Ident.raw (placed s) (placed t) c.next.new.self c.next-2.new.self is equals g h
    c.in_ok-value-in-Some-Ok-Equals.ensures
