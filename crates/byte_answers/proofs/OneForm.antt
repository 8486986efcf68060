-- Laws of flat forms: bytes are the flat form of one condition, and of one list of facts.
use Rattle.std.proofs.Common.{◌≡◌, refl, sym, ap, ◌∙◌, ℕ, suc, List, [], ◌∷◌, ◌++◌, length, arith, subst, reverse}
use Rattle.std.proofs.Common.{append-nil}
use Rattle.std.proofs.Common.{◌+◌, ◌<◌, ◌≤◌, ◌^◌, append_assoc}
use Rattle.std.proofs.lemmas.List.{length-append, reverse-append, reverse-reverse}
use Rattle.cargo_platform.specs.Trees.{CfgValue, Tree, Condition, Target, Expression}
use Rattle.byte_answers.specs.Flat.{numbers, flat_value, flat_values, flat_condition}
use Rattle.byte_answers.specs.Pieces.{Piece, leaf, yes, no, negation, all_of, any_of, piece_bytes, Leaves}
use Rattle.byte_answers.proofs.Pieces.{one_piece, piece_sizes, same_numbers, ending_tag}
use Rattle.byte_answers.proofs.Building.{pieces, Builds, back, back_bytes, back_builds, number_small, one_stack}
use Rattle.byte_answers.proofs.Building.{no_target}
use Rattle.byte_answers.proofs.Building.{expression_ended, from_last, onto, onto_bytes}

-- a record makes a stack at most one tree higher
grown : (p : Piece) (st next : List Tree) → Leaves p st next → length next ≤ suc (length st)
grown (leaf c) st next made = omega (arith, ap length made)
grown yes st next made = omega (arith, ap length made)
grown no st next made = omega (arith, ap length made)
grown negation st next (e, (rest, (has, made))) = omega (arith, ap length made, ap length has)
grown (all_of n) st next (es, rest, (size, has, made)) =
    omega (arith, ap length made, ap length has, length-append es rest)
grown (any_of n) st next (es, rest, (size, has, made)) =
    omega (arith, ap length made, ap length has, length-append es rest)

-- what is before a record is 17 bytes shorter at least
piece_room : (ps : List Piece) (p : Piece) → length (pieces ps) + 17 ≤ length (pieces ps ++ piece_bytes p)
piece_room ps p = omega (arith, length-append (pieces ps) (piece_bytes p), (piece_sizes (piece_bytes p) [] p refl).long)

name_small : (bytes name : List ℕ) → length bytes < 2 ^ 64 → name ++ numbers (length name) 0 9 ≡ bytes
    → length name < 2 ^ 64
name_small bytes name small is = omega (arith, ap length is, length-append name (numbers (length name) 0 9))

same_built : (ps qs : List Piece) (st : List Tree) (t u : Tree) → length (pieces ps) + length st < 2 ^ 64
    → pieces ps ≡ pieces qs → Builds ps st t → Builds qs st u → t ≡ u
same_built [] [] st t u small same a b = let both : t ∷ [] ≡ u ∷ [] = sym a ∙ b in cc
same_built [] (q ∷ qs) st t u small same a b =
    absurd (omega (arith, (piece_sizes [] (pieces qs) q same).long))
same_built (p ∷ ps) [] st t u small same a b =
    absurd (omega (arith, (piece_sizes [] (pieces ps) p (sym same)).long))
same_built (p ∷ ps) (q ∷ qs) st t u small same (next, (made, a)) (other, (left, b)) =
    let bytes : List ℕ = pieces ps ++ piece_bytes p in
    let less : length bytes < 2 ^ 64 = omega arith in
    let few : length st < 2 ^ 64 = omega arith in
    let one = one_piece bytes (pieces ps) (pieces qs) p q less
    (number_small bytes (pieces ps) p st next less few refl made)
    (number_small bytes (pieces qs) q st other less few same left) refl same in
    let next_is : other ≡ next =
    one_stack p st other next (subst (λ (z : Piece). Leaves z st other) (sym one.1) left) made in
    same_built ps qs next t u
    (omega (arith, grown p st next made, piece_room ps p))
    one.0 a (subst (λ (z : List Tree). Builds qs z u) next_is b)

-- bytes are the flat form of one condition
pub one_condition : (bytes : List ℕ) (p q : Condition) → length bytes < 2 ^ 64 → flat_condition p ≡ bytes
    → flat_condition q ≡ bytes → p ≡ q
one_condition bytes (Target name) (Target other) small a b =
    ap Target (same_numbers name other (length name) 0 9 (length other) 0 9 (name_small bytes name small a)
    (omega arith) (name_small bytes other small b) (omega arith) (a ∙ sym b)).front
one_condition bytes (Target name) (Expression e) small a b =
    let h = expression_ended bytes e b in
    absurd (no_target h.last (sym (ending_tag bytes name h.front (length name) 0 9 h.last (sym a) h.is)))
one_condition bytes (Expression e) (Target name) small a b =
    let h = expression_ended bytes e a in
    absurd (no_target h.last (sym (ending_tag bytes name h.front (length name) 0 9 h.last (sym b) h.is)))
one_condition bytes (Expression e) (Expression d) small a b =
    ap Expression (same_built (back e []) (back d []) [] e d (omega (arith, ap length (back_bytes e [] ∙ a)))
    (back_bytes e [] ∙ a ∙ sym b ∙ sym (back_bytes d [])) (back_builds e [] [] e refl) (back_builds d [] [] d refl))

same_facts : (cs ds : List CfgValue) → length (from_last cs) < 2 ^ 64 → from_last cs ≡ from_last ds → cs ≡ ds
same_facts [] [] small same = refl
same_facts [] (d ∷ ds) small same = absurd (omega (arith, (piece_sizes [] (from_last ds) (leaf d) same).long))
same_facts (c ∷ cs) [] small same = absurd (omega (arith, (piece_sizes [] (from_last cs) (leaf c) (sym same)).long))
same_facts (c ∷ cs) (d ∷ ds) small same =
    let bytes : List ℕ = from_last cs ++ flat_value c in
    let p = piece_sizes bytes (from_last cs) (leaf c) refl in
    let q = piece_sizes bytes (from_last ds) (leaf d) same in
    let one = one_piece bytes (from_last cs) (from_last ds) (leaf c) (leaf d) small (omega (arith, p.first))
    (omega (arith, q.first)) refl same in
    let head : leaf c ≡ leaf d = one.1 in
    let first : c ≡ d = cc in
    let rest : cs ≡ ds = same_facts cs ds (omega (arith, p.shorter)) one.0 in
    ap (λ (z : CfgValue). z ∷ cs) first ∙ ap (λ (z : List CfgValue). d ∷ z) rest

onto_reverse : (cs others : List CfgValue) → onto cs others ≡ reverse cs ++ others
onto_reverse [] others = refl
onto_reverse (c ∷ cs) others =
    onto_reverse cs (c ∷ others)
    ∙ sym (append_assoc (reverse cs) (c ∷ []) others)
    ∙ ap (λ (z : List CfgValue). z ++ others) (sym (reverse-append (c ∷ []) cs))

onto_none : (cs : List CfgValue) → onto cs [] ≡ reverse cs
onto_none cs = onto_reverse cs [] ∙ append-nil (reverse cs)

-- and of one list of facts
pub one_facts : (bytes : List ℕ) (cs ds : List CfgValue) → length bytes < 2 ^ 64 → flat_values cs ≡ bytes
    → flat_values ds ≡ bytes → cs ≡ ds
one_facts bytes cs ds small a b =
    let same = same_facts (onto cs []) (onto ds []) (omega (arith, ap length (onto_bytes cs [] ∙ a)))
    (onto_bytes cs [] ∙ a ∙ sym b ∙ sym (onto_bytes ds [])) in
    sym (reverse-reverse cs) ∙ ap reverse (sym (onto_none cs) ∙ same ∙ onto_none ds) ∙ reverse-reverse ds
