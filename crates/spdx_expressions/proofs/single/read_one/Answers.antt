use Rattle.std.proofs.Common.{◌∙◌, ℕ, List, [], ◌∷◌, sym, ap, subst, refl, Some, None, string_bytes}
use Rattle.std.proofs.lemmas.Str.{IsCharBoundary-start}
use Rattle.spdx_expressions.specs.Tokens.{Placed, placed, lexeme}
use Rattle.spdx_expressions.specs.Trees.{Term}
use Rattle.spdx_expressions.specs.Grammar.{IsLicenceText}
use Rattle.spdx_expressions.specs.Inside.Reading.{left, IsExcepted, LacksWith}
use Rattle.spdx_expressions.proofs.One.{name_of, stopped_empty, stopped_name, stopped_exception}
use Rattle.spdx_expressions.proofs.One.{stopped_surplus}
use Rattle.spdx_expressions.proofs.One.{stopped_behind, plain_text, excepted_text}
use Rattle.spdx_expressions.proofs.single.read_one.Goals as goal

pub token_at-next-requires : goal.token_at-next-requires
token_at-next-requires c = IsCharBoundary-start c.args.text.now c.utf8.text

pub returns-in_default-clause-refused : goal.returns-in_default-clause-refused
returns-in_default-clause-refused c =
    stopped_empty c.args.text.now c.refuse.result c.in_default.ensures.next (c.refuse.ensures [] refl)

pub returns-in_default-name_in-clause-refused : goal.returns-in_default-name_in-clause-refused
returns-in_default-name_in-clause-refused c =
    let text = c.args.text.now in
    let first = c.in-Some.first in
    stopped_name text (placed first) (left text first.end) c.refuse-in_default-name_in.result c.in-Some.ensures.next
    c.in_default-name_in.ensures
    (c.refuse-in_default-name_in.ensures (placed first ∷ left text first.end) (left text first.end, refl))

pub returns-in-Err-clause-refused : goal.returns-in-Err-clause-refused
returns-in-Err-clause-refused c =
    let text = c.args.text.now in
    let first = c.in-Some.first in
    let t : Term = record {
      name = c.in-Some-name_in.name.now;
      or_later = c.in-Some-name_in.or_later;
      exception =
          None;
    } in
    stopped_exception text (placed first) (left text first.end) t c.in-Err.refusal c.in-Some.ensures.next
    (name_of (lexeme first.token) t (c.in-Some-name_in.ensures 0 [])) c.in-Err.ensures.refused

pub returns-in-Some-token_at-clause-refused : goal.returns-in-Some-token_at-clause-refused
returns-in-Some-token_at-clause-refused c =
    let text = c.args.text.now in
    let first = c.in-Some.first in
    let t : Term = record {
      name = c.in-Some-name_in.name.now;
      or_later = c.in-Some-name_in.or_later;
      exception =
          None;
    } in
    let found = rw c.in-Some-found.is at c.in-Ok.ensures.found in
    let surplus = c.in-Some-token_at.surplus in
    let P : List Placed → Type 0 = IsExcepted (left text first.end) c.in-Some-found.exception.word.now in
    stopped_behind text (placed first) (placed surplus) (left text first.end) (left text surplus.end)
    c.in-Some-found.exception.word.now t c.refuse-in-Some-token_at.result c.in-Some.ensures.next
    (name_of (lexeme first.token) t (c.in-Some-name_in.ensures 0 []))
    (subst P c.in-Some-token_at.ensures.next found)
    (c.refuse-in-Some-token_at.ensures (placed surplus ∷ left text surplus.end) (left text surplus.end, refl))

pub returns-in-Some-token_at-2-clause-refused : goal.returns-in-Some-token_at-2-clause-refused
returns-in-Some-token_at-2-clause-refused c =
    let text = c.args.text.now in
    let first = c.in-Some.first in
    let t : Term = record {
      name = c.in-Some-name_in.name.now;
      or_later = c.in-Some-name_in.or_later;
      exception =
          None;
    } in
    let found = rw c.in-None.is at c.in-Ok.ensures.found in
    let surplus = c.in-Some-token_at-2.surplus in
    stopped_surplus text (placed first) (placed surplus) (left text surplus.end) t c.refuse-in-Some-token_at-2.result
    (c.in-Some.ensures.next ∙ ap (λ (l : List Placed). placed first ∷ l) c.in-Some-token_at-2.ensures.next)
    (name_of (lexeme first.token) t (c.in-Some-name_in.ensures 0 []))
    (subst LacksWith c.in-Some-token_at-2.ensures.next found)
    (c.refuse-in-Some-token_at-2.ensures (placed surplus ∷ left text surplus.end) (left text surplus.end, refl))

pub returns-in_ok-id-in-Some-found-clause-licence : goal.returns-in_ok-id-in-Some-found-clause-licence
returns-in_ok-id-in-Some-found-clause-licence c =
    let text = c.args.text.now in
    let first = c.in-Some.first in
    let later = c.in-Some-name_in.or_later in
    let t : Term = record { name = c.in-Some-name_in.name.now; or_later = later; exception = None } in
    let found = rw c.in-Some-found.is at c.in-Ok.ensures.found in
    let word = c.in-Some-found.exception.word.now in
    let whole : IsLicenceText text (record {
      name = c.in-Some-name_in.name.now;
      or_later = later;
      exception =
          Some word;
    }) =
    excepted_text text (placed first) (left text first.end) (left text c.in-Some-found.exception.end) word t
    c.in-Some.ensures.next (name_of (lexeme first.token) t (c.in-Some-name_in.ensures 0 [])) found
    c.in_default-token_at.ensures.next in
    let P : List ℕ → Type 0 = λ n. IsLicenceText text (record { name = n; or_later = later; exception = Some word }) in
    let Q : List ℕ → Type 0 = λ e. IsLicenceText text (record {
      name = string_bytes c.in_ok-id-in-Some-found.id;
      or_later = later;
      exception = Some e;
    }) in
    subst Q (sym c.in_ok-word-in-Some-found.ensures.ok) (subst P (sym c.in_ok-id-in-Some-found.ensures.ok) whole)

pub returns-in_ok-id-in-None-clause-licence : goal.returns-in_ok-id-in-None-clause-licence
returns-in_ok-id-in-None-clause-licence c =
    let text = c.args.text.now in
    let first = c.in-Some.first in
    let later = c.in-Some-name_in.or_later in
    let t : Term = record { name = c.in-Some-name_in.name.now; or_later = later; exception = None } in
    let P : List ℕ → Type 0 = λ n. IsLicenceText text (record { name = n; or_later = later; exception = None }) in
    subst P (sym c.in_ok-id-in-None.ensures.ok)
    (plain_text text (placed first) (left text first.end) t c.in-Some.ensures.next
    (name_of (lexeme first.token) t (c.in-Some-name_in.ensures 0 [])) c.in_default-token_at-2.ensures.next)
