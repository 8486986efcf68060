-- Names and pairs are read as facts to look up, without their marks of raw names.
use Rattle.std.proofs.Common.{◌≡◌, refl, sym, ap, ◌∙◌, ℕ, zero, suc, List, ◌++◌, length, arith}
use Rattle.std.proofs.Common.{true, false, take, drop, ◌+◌, ◌<◌, ◌≤◌, ◌^◌, Option, Some, None, MatchOption}
use Rattle.std.specs.Prelude.{SomeIff}
use Rattle.std.proofs.lemmas.List.{length-append, nil_from_length, take-append-drop, length-take-le, length-drop}
use Rattle.cargo_platform.specs.Trees.{CfgValue, Alone, KeyPair}
use Rattle.cargo_platform.specs.Facts.{pair_of}
use Rattle.byte_answers.specs.declared.prepared.Sought.{Sought}
use Rattle.byte_answers.specs.declared.truths.Found.TheVariants as found
use Rattle.byte_answers.specs.Flat.{numbers, flat_value, first_of, second_of, tag_of}
use Rattle.byte_answers.specs.Pieces.{Piece, leaf, yes, no, negation, all_of, any_of, piece_bytes}
use Rattle.byte_answers.specs.Prepared.{fact_texts, value_mark}
use Rattle.byte_answers.specs.Truths.{IsFound}
use Rattle.byte_answers.proofs.Pieces.{record_behind, ending_tag, value_numbers}

-- a value with these texts and this tag
abbrev pub HasMark : ℕ → ℕ → List ℕ → List ℕ → Type 0
HasMark tag mark first second =
    (c : CfgValue) × ((first_of c ≡ first) × (second_of c ≡ second) × (tag_of c ≡ tag)
    × (value_mark (pair_of c).value ≡ mark))

pub pair_marked : (tag size mark : ℕ) (first second : List ℕ) → 2 ≤ tag → tag < 4 → mark ≡ size + 1
    → length second ≡ size → HasMark tag mark first second
pair_marked zero size mark first second low high is long = absurd (omega (arith, low))
pair_marked (suc zero) size mark first second low high is long = absurd (omega (arith, low))
pair_marked (suc (suc zero)) size mark first second low high is long =
    (KeyPair (record { raw = false; name = first }) second, (refl, refl, refl, omega (arith, is, long)))
pair_marked (suc (suc (suc zero))) size mark first second low high is long =
    (KeyPair (record { raw = true; name = first }) second, (refl, refl, refl, omega (arith, is, long)))
pair_marked (suc (suc (suc (suc n)))) size mark first second low high is long = absurd (omega (arith, high))

pub name_marked : (tag size : ℕ) (first second : List ℕ) → tag < 2 → size ≡ 0 → length second ≡ size
    → HasMark tag 0 first second
name_marked zero size first second low none long =
    (Alone (record { raw = false; name = first }), (refl, sym (nil_from_length second (long ∙ none)), refl, refl))
name_marked (suc zero) size first second low none long =
    (Alone (record { raw = true; name = first }), (refl, sym (nil_from_length second (long ∙ none)), refl, refl))
name_marked (suc (suc n)) size first second low none long = absurd (omega (arith, low))

-- a pair's mark is that of its length
pub pair_mark : (tag size : ℕ) (o : Option ℕ) → 2 ≤ tag → tag < 4 → SomeIff o (size + 1 < 2 ^ 64) (size + 1)
    → MatchOption o ((c : CfgValue) → tag_of c ≡ tag → length (second_of c) ≡ size → size + 1 < 2 ^ 64 → ⊥)
    (λ mark. (first second : List ℕ) → length second ≡ size → HasMark tag mark first second)
pair_mark tag size None low high big = λ c tagged long small. big small
pair_mark tag size (Some mark) low high is =
    λ first second long. pair_marked tag size mark first second low high is.1 long

-- the name of a value, and its texts
pair_texts : (c : CfgValue) → first_of c ++ second_of c ≡ fact_texts (pair_of c)
pair_texts (Alone n) = refl
pair_texts (KeyPair k v) = refl

pair_name : (c : CfgValue) → first_of c ≡ (pair_of c).name
pair_name (Alone n) = refl
pair_name (KeyPair k v) = refl

abbrev pub IsRead : List ℕ → List ℕ → Sought → Type 0
IsRead bytes left sought =
    (c : CfgValue) × ((bytes ≡ left ++ flat_value c) × IsFound (found.Fact sought) (leaf c))

pub fact_read : (before left : List ℕ) (sought : Sought) (a b tag : ℕ) → before ≡ left ++ sought.texts.now
    → length sought.texts.now ≡ a + b → sought.name_size ≡ a
    → ((first second : List ℕ) → length second ≡ b → HasMark tag sought.value_mark first second)
    → IsRead (before ++ numbers a b tag) left sought
fact_read before left sought a b tag is long name marked =
    let texts : List ℕ = sought.texts.now in
    let size : length (drop a texts) ≡ b = omega (arith, length-drop a texts, long) in
    let name_long : length (take a texts) ≡ a = length-take-le a texts (omega (arith, long)) in
    let m = marked (take a texts) (drop a texts) size in
    let c : CfgValue = m.0 in
    let whole : texts ≡ first_of c ++ second_of c =
    sym (take-append-drop a texts) ∙ (λ i. sym m.1.0 i ++ sym m.1.1 i) in
    let first_size : length (first_of c) ≡ a = ap length m.1.0 ∙ name_long in
    let second_size : length (second_of c) ≡ b = ap length m.1.1 ∙ size in (
      c,
      (
        ap (λ (z : List ℕ). z ++ numbers a b tag) (is ∙ ap (λ (z : List ℕ). left ++ z) whole)
            ∙ (λ i. (left ++ (first_of c ++ second_of c))
            ++ numbers (sym first_size i) (sym second_size i) (sym m.1.2 i))
            ∙ sym (record_behind left (first_of c) (second_of c) (tag_of c)),
        (
          c,
          (
            refl,
            (whole ∙ pair_texts c, name ∙ sym first_size ∙ ap length (pair_name c), sym m.1.3),
          ),
        ),
      ),
    )

-- bytes that no value ends, with the tag of one, are ended by no record
pub no_fact_last : (bytes before front : List ℕ) (a b tag : ℕ) (p : Piece) → bytes ≡ before ++ numbers a b tag
    → tag < 4 → ((front : List ℕ) (c : CfgValue) → before ++ numbers a b tag ≡ front ++ flat_value c → ⊥)
    → bytes ≡ front ++ piece_bytes p → ⊥
no_fact_last bytes before front a b tag (leaf c) one low never other = never front c (sym one ∙ other)
no_fact_last bytes before front a b tag yes one low never other =
    omega (arith, ending_tag bytes before front a b tag yes one other)
no_fact_last bytes before front a b tag no one low never other =
    omega (arith, ending_tag bytes before front a b tag no one other)
no_fact_last bytes before front a b tag negation one low never other =
    omega (arith, ending_tag bytes before front a b tag negation one other)
no_fact_last bytes before front a b tag (all_of n) one low never other =
    omega (arith, ending_tag bytes before front a b tag (all_of n) one other)
no_fact_last bytes before front a b tag (any_of n) one low never other =
    omega (arith, ending_tag bytes before front a b tag (any_of n) one other)

-- two lengths that are too great for the bytes before the numbers
pub too_long : (before front : List ℕ) (a b tag : ℕ) (c : CfgValue) → length before + 17 < 2 ^ 64 → a < 2 ^ 64
    → b < 2 ^ 64 → length before < a + b → before ++ numbers a b tag ≡ front ++ flat_value c → ⊥
too_long before front a b tag c small sa sb few same =
    let s = value_numbers before front a b tag c small sa sb same in
    omega (
      arith,
      few,
      ap length s.front,
      length-append front (first_of c ++ second_of c),
      length-append (first_of c) (second_of c),
      s.first,
      s.second,
    )
