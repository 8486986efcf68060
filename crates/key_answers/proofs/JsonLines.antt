-- What is appended to a line of JSON is shown.
use Rattle.std.proofs.Common.{◌≡◌, ℕ, true, List, [], ◌∷◌, ◌++◌, refl, sym, ap, ◌∙◌, inl, inr, arith, map, All}
use Rattle.std.proofs.Common.{lit<, zero, suc, Result, Ok, Err, OnOk, if◌then◌else◌}
use Rattle.std.specs.Prelude.{nat_le}
use Rattle.std.specs.List.{list_all}
use Rattle.std.specs.Result.{is_ok}
use Rattle.std.specs.Str.{IsAscii}
use Rattle.std.proofs.lemmas.Bool.{and_parts, ltb-true}
use Rattle.std.proofs.lemmas.List.Elements.{All-nil, All-cons}
use Rattle.std.proofs.lemmas.Str.{encodes-IsAscii}
use Rattle.cargo_platform.specs.Snippets.{shown}
use Rattle.key_answers.specs.JsonLines.{is_printable, IsShown, IsShownText, AppendsShown}

ascii : (bs : List ℕ) → list_all is_printable bs ≡ true → IsAscii bs
ascii [] h i = lit< tt
ascii (b ∷ bs) h zero =
    let below = ltb-true b 127 (and_parts (nat_le 32 b) _ (and_parts (is_printable b) _ h).0).1 in omega arith
ascii (b ∷ bs) h (suc i) = ascii bs (and_parts (is_printable b) _ h).1 i

printable_shown : (bs : List ℕ) → list_all is_printable bs ≡ true → All IsShown bs
printable_shown [] h = All-nil IsShown
printable_shown (b ∷ bs) h =
    let parts = and_parts (is_printable b) _ h in
    All-cons IsShown b bs (inl parts.0) (printable_shown bs parts.1)

map_shown : (cs : List ℕ) → All IsShown (map shown cs)
map_shown [] = All-nil IsShown
map_shown (c ∷ cs) = All-cons IsShown (shown c) (map shown cs) (inr (c, refl)) (map_shown cs)

-- printable ASCII is appended
pub appends_printable : {E : Type 0} (r : Result Unit E) (before bs after other : List ℕ)
    → list_all is_printable bs ≡ true → after ≡ (if is_ok r then before ++ bs else other)
    → OnOk r (AppendsShown before after)
appends_printable (Ok u) before bs after other h same =
    (bs, (printable_shown bs h, same ∙ ap (λ (xs : List ℕ). before ++ xs) (sym (encodes-IsAscii bs (ascii bs h)))))
appends_printable (Err e) before bs after other h same = tt

-- what is shown for some text is appended
pub appends_shown : {E : Type 0} (r : Result Unit E) (before bs after other : List ℕ) → IsShownText bs
    → after ≡ (if is_ok r then before ++ bs else other) → OnOk r (AppendsShown before after)
appends_shown (Ok u) before bs after other (cs, is) same =
    (map shown cs, (map_shown cs, same ∙ ap (λ (xs : List ℕ). before ++ xs) is))
appends_shown (Err e) before bs after other is same = tt
