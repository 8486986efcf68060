-- Bytes grow record by record.
use Rattle.std.proofs.Common.{◌≡◌, refl, sym, ap, ◌∙◌, ℕ, suc, List, [], ◌∷◌, ◌++◌, length, map, append_assoc}
use Rattle.std.proofs.Common.{append-nil}
use Rattle.std.proofs.Common.{Vec, Box, Global, box_value, vec_len, arith, reverse}
use Rattle.std.proofs.Common.{◌+◌, ◌-◌, ◌<◌, take, drop, get_or, w8, w64, Fits}
use Rattle.std.proofs.lemmas.List.{map-append, reverse-append, get_or-drop, length-drop}
use Rattle.std.proofs.lemmas.List.{take-append-drop}
use Rattle.std.proofs.lemmas.Nat.{le_bytes_8}
use Rattle.std.specs.Int.{to_le_bytes, from_le_bytes}
use Rattle.cargo_platform.specs.declared.cfg.CfgExpr.{CfgExpr}
use Rattle.cargo_platform.specs.declared.cfg.CfgExpr.TheVariants as expr
use Rattle.cargo_platform.specs.Trees.{tree_of, trees_of}
use Rattle.cargo_platform.proofs.TreeViews.{tree_of-Not, tree_of-All, tree_of-Any, tree_of-True}
use Rattle.byte_answers.specs.Flat.{numbers, flat, flats_of, count}

pub pushed : (old a b t one two now : List ℕ) → one ≡ old ++ a → two ≡ one ++ b → now ≡ two ++ t
    → now ≡ old ++ (a ++ b ++ t)
pushed old a b t one two now first second third =
    third
    ∙ ap (λ z. z ++ t) (second ∙ ap (λ z. z ++ b) first ∙ append_assoc old a b)
    ∙ append_assoc old (a ++ b) t

-- what is before the members is written
pub begun : (old new word rest whole : List ℕ) → new ≡ old ++ word → whole ≡ word ++ rest → new ++ rest ≡ old ++ whole
begun old new word rest whole written is =
    ap (λ z. z ++ rest) written ∙ append_assoc old word rest ∙ ap (λ z. old ++ z) (sym is)

pub count_is : (es : List CfgExpr) → count (trees_of (map tree_of es)) ≡ length es
count_is [] = refl
count_is (e ∷ es) = ap suc (count_is es)

pub flat-Not : (e : CfgExpr) (b : Box CfgExpr Global) → e ≡ expr.Not b
    → flat (tree_of e) ≡ numbers 1 0 6 ++ flats_of (box_value b ∷ [])
flat-Not e b is =
    ap (λ z. flat (tree_of z)) is ∙ ap flat (tree_of-Not b)
    ∙ ap (λ z. numbers 1 0 6 ++ z) (sym (append-nil (flat (tree_of (box_value b)))))

pub flat-All : (e : CfgExpr) (v : Vec CfgExpr Global) (n : ℕ) → e ≡ expr.All v → n ≡ vec_len v
    → flat (tree_of e) ≡ numbers n 0 7 ++ flats_of v.items
flat-All e v n is size =
    ap (λ z. flat (tree_of z)) is ∙ ap flat (tree_of-All v)
    ∙ ap (λ k. numbers k 0 7 ++ flats_of v.items) (count_is v.items ∙ sym (size ∙ v.ok.0))

pub flat-Any : (e : CfgExpr) (v : Vec CfgExpr Global) (n : ℕ) → e ≡ expr.Any v → n ≡ vec_len v
    → flat (tree_of e) ≡ numbers n 0 8 ++ flats_of v.items
flat-Any e v n is size =
    ap (λ z. flat (tree_of z)) is ∙ ap flat (tree_of-Any v)
    ∙ ap (λ k. numbers k 0 8 ++ flats_of v.items) (count_is v.items ∙ sym (size ∙ v.ok.0))

pub flat-True : (e : CfgExpr) → e ≡ expr.True → flat (tree_of e) ≡ numbers 0 0 4 ++ []
flat-True e is = ap (λ z. flat (tree_of z)) is ∙ ap flat tree_of-True ∙ sym (append-nil (numbers 0 0 4))

pub number_behind : (xs before last : List ℕ) (n : ℕ) → before ≡ take (length xs - 8) xs
    → last ≡ drop (length xs - 8) xs → length before + 8 ≡ length xs → ((i : ℕ) → Fits w8 (get_or xs i 0))
    → n ≡ from_le_bytes w64 last → xs ≡ before ++ to_le_bytes w64 n
number_behind xs before last n front back size small read =
    let m : ℕ = length xs - 8 in
    let eight : length last ≡ 8 = ap length back ∙ length-drop m xs ∙ omega (arith, size) in
    let bounded : (i : ℕ) → get_or last i 0 < 256 =
    λ i. rw (back, get_or-drop m xs i 0) ((small (m + i)).fits) in
    sym (take-append-drop m xs)
    ∙ ap (λ z. z ++ drop m xs) (sym front)
    ∙ ap (λ z. before ++ z) (sym back ∙ sym (le_bytes_8 last n eight bounded read))

pub numbers_behind : (xs one two before : List ℕ) (a b tag : ℕ) → xs ≡ one ++ tag ∷ [] → one ≡ two ++ to_le_bytes w64 b
    → two ≡ before ++ to_le_bytes w64 a → xs ≡ before ++ numbers a b tag
unfolding numbers
numbers_behind xs one two before a b tag last second first =
    pushed before (to_le_bytes w64 a) (to_le_bytes w64 b) (tag ∷ []) two one xs first second last

pub map-reverse : {X Y : Type 0} (f : X → Y) → (xs : List X) → map f (reverse xs) ≡ reverse (map f xs)
map-reverse f [] = refl
map-reverse f (x ∷ xs) =
    ap (map f) (reverse-append (x ∷ []) xs)
    ∙ map-append f (reverse xs) (x ∷ [])
    ∙ ap (λ l. l ++ f x ∷ []) (map-reverse f xs)
    ∙ sym (reverse-append (f x ∷ []) (map f xs))
