-- Prepared bytes have one reading: their two parts, the last entry of an index, and a text at a place.
use Rattle.std.proofs.Common.{◌≡◌, refl, sym, ap, ◌∙◌, ℕ, List, [], ◌∷◌, ◌++◌, length, append_assoc, arith}
use Rattle.std.proofs.Common.{true, false, Bool, take, drop, ◌+◌, ◌*◌, ◌-◌, ◌<◌, ◌≤◌, ◌^◌, ◌%◌, w64, eqb}
use Rattle.std.specs.Prelude.{if◌then◌else◌, nat_lt}
use Rattle.std.proofs.Math.Seq.{drop-append_seam}
use Rattle.std.proofs.lemmas.Nat.{from_le_bytes-to_le_bytes_8}
use Rattle.std.specs.Int.{to_le_bytes, from_le_bytes}
use Rattle.std.specs.List.{starts_with}
use Rattle.std.proofs.lemmas.List.{length-append, nil_from_length, take-append-drop, length-take-le}
use Rattle.std.proofs.lemmas.Slice.Eq.{starts_is}
use Rattle.std.proofs.lemmas.Bool.{le-ltb, lt-ltb}
use Rattle.std.proofs.lemmas.Bool.Decides.{Decides-eqb}
use Rattle.byte_answers.specs.declared.prepared.TheConstants.{FORMAT}
use Rattle.byte_answers.specs.Prepared.{Entry, entry_bytes, index_of, with_numbers, IsAt, hash}
use Rattle.byte_answers.proofs.Pieces.{same_ends, same_fronts, same_number}
use Rattle.byte_answers.proofs.Entries.{entry_behind, entry_size}

-- the last 24 bytes are an entry, which is read from its end
pub entry_last : (index before entry two one none : List ℕ) (a b t : ℕ) → before ≡ take (length index - 24) index
    → entry ≡ drop (length index - 24) index → length before + 24 ≡ length index → entry ≡ two ++ to_le_bytes w64 t
    → two ≡ one ++ to_le_bytes w64 b → one ≡ none ++ to_le_bytes w64 a
    → index ≡ before ++ entry_bytes (record { start = a; name_size = b; mark = t })
entry_last index before entry two one none a b t front back size third second first =
    let e : Entry = record { start = a; name_size = b; mark = t } in
    let whole : index ≡ before ++ entry =
    sym (take-append-drop (length index - 24) index) ∙ (λ i. sym front i ++ sym back i) in
    let read : entry ≡ none ++ entry_bytes e = entry_behind entry one two none a b t first second third in
    let nothing : none ≡ [] =
    nil_from_length none (omega (
      arith,
      ap length whole,
      length-append before entry,
      ap length read,
      length-append none (entry_bytes e),
      entry_size e,
      size,
    )) in
    whole ∙ ap (λ (z : List ℕ). before ++ z) (read ∙ ap (λ (z : List ℕ). z ++ entry_bytes e) nothing)

pub found_at : (texts rest part : List ℕ) (start : ℕ) (r : Bool) → start ≤ length texts → rest ≡ drop start texts
    → r ≡ starts_with eqb rest part → r ≡ true → IsAt texts start part
found_at texts rest part start r fits is test holds = (
  take start texts,
  drop (length part) rest,
  (
    sym (take-append-drop start texts)
        ∙ ap (λ (z : List ℕ). take start texts ++ z) (sym is ∙ (starts_is Decides-eqb rest part r test).0 holds),
    length-take-le start texts fits,
  ),
)

pub not_at : (texts rest part : List ℕ) (start : ℕ) (r : Bool) → start ≤ length texts → rest ≡ drop start texts
    → r ≡ starts_with eqb rest part → r ≡ false → IsAt texts start part → ⊥
not_at texts rest part start r fits is test fails (front, more, (has, place)) =
    let s = same_fronts front (part ++ more) (take start texts) (drop start texts)
    (sym has ∙ sym (take-append-drop start texts)) (place ∙ sym (length-take-le start texts fits)) in
    let holds : r ≡ true = (starts_is Decides-eqb rest part r test).1 more (is ∙ sym s.1) in
    let two : false ≡ true = sym fails ∙ holds in cc

-- the numbers at the end of prepared bytes
numbers_last : (texts index : List ℕ) → with_numbers texts index
    ≡ ((texts ++ index) ++ to_le_bytes w64 (length texts)) ++ to_le_bytes w64 FORMAT
numbers_last texts index =
    let size : List ℕ = to_le_bytes w64 (length texts) in
    let format : List ℕ = to_le_bytes w64 FORMAT in
    sym (append_assoc texts index (size ++ format)) ∙ sym (append_assoc (texts ++ index) size format)

pub with_last : (texts index one two three : List ℕ) → one ≡ texts ++ index
    → two ≡ one ++ to_le_bytes w64 (length texts) → three ≡ two ++ to_le_bytes w64 FORMAT
    → with_numbers texts index ≡ three
with_last texts index one two three first second third =
    numbers_last texts index
    ∙ ap (λ (z : List ℕ). (z ++ to_le_bytes w64 (length texts)) ++ to_le_bytes w64 FORMAT) (sym first)
    ∙ ap (λ (z : List ℕ). z ++ to_le_bytes w64 FORMAT) (sym second)
    ∙ sym third

number_size : (n : ℕ) → length (to_le_bytes w64 n) ≡ 8
number_size n = refl

-- the hash of texts is read from their last 8 bytes
hash_from : (texts : List ℕ) (b : Bool) → nat_lt (length texts) 8 ≡ b
    → hash texts ≡ (if b then 0 else from_le_bytes w64 (drop (length texts - 8) texts) % 251)
unfolding hash
hash_from texts b is =
    ap (λ (z : Bool). if z then 0 else from_le_bytes w64 (drop (length texts - 8) texts) % 251) is

pub hash_short : (texts : List ℕ) → length texts < 8 → hash texts ≡ 0
hash_short texts short = hash_from texts true (lt-ltb (length texts) 8 short)

hash_below : (texts : List ℕ) (b : Bool) → nat_lt (length texts) 8 ≡ b → hash texts < 256
hash_below texts true is = omega (arith, hash_from texts true is)
hash_below texts false is = omega (arith, hash_from texts false is)

pub hash_small : (texts : List ℕ) → hash texts < 256
hash_small texts = hash_below texts (nat_lt (length texts) 8) refl

pub hash_read : (texts front : List ℕ) (n : ℕ) → n < 2 ^ 64 → texts ≡ front ++ to_le_bytes w64 n → hash texts ≡ n % 251
hash_read texts front n small is =
    let long : length texts ≡ length front + 8 =
    omega (arith, ap length is, length-append front (to_le_bytes w64 n), number_size n) in
    let place : length texts - 8 ≡ length front = omega (arith, long) in
    let last : drop (length texts - 8) texts ≡ to_le_bytes w64 n =
    (λ i. drop (place i) (is i)) ∙ drop-append_seam front (to_le_bytes w64 n) in
    hash_from texts false (le-ltb (length texts) 8 (omega (arith, long)))
    ∙ ap (λ (z : List ℕ). from_le_bytes w64 z % 251) last
    ∙ ap (λ (k : ℕ). k % 251) (from_le_bytes-to_le_bytes_8 n small)

-- the number of the format, which ends the bytes
pub format_of : (texts index bytes one : List ℕ) (format : ℕ) → format < 2 ^ 64
    → bytes ≡ one ++ to_le_bytes w64 format → with_numbers texts index ≡ bytes
    → (one ≡ (texts ++ index) ++ to_le_bytes w64 (length texts)) × (format ≡ FORMAT)
format_of texts index bytes one format small last is =
    let front : List ℕ = (texts ++ index) ++ to_le_bytes w64 (length texts) in
    let s = same_ends one (to_le_bytes w64 format) front (to_le_bytes w64 FORMAT)
    (sym last ∙ sym is ∙ numbers_last texts index) refl in
    (s.0, same_number format FORMAT small (omega arith) s.1)

-- the length of the texts, and both parts together
pub parts_of : (texts index bytes one two : List ℕ) (format size : ℕ) → length bytes < 2 ^ 64 → format < 2 ^ 64
    → size < 2 ^ 64 → bytes ≡ one ++ to_le_bytes w64 format → one ≡ two ++ to_le_bytes w64 size
    → with_numbers texts index ≡ bytes → (two ≡ texts ++ index) × (size ≡ length texts)
parts_of texts index bytes one two format size few small little last second is =
    let f = format_of texts index bytes one format small last is in
    let s = same_ends two (to_le_bytes w64 size) (texts ++ index) (to_le_bytes w64 (length texts))
    (sym second ∙ f.0) refl in
    let fits : length texts < 2 ^ 64 =
    omega (
      arith,
      few,
      ap length last,
      length-append one (to_le_bytes w64 format),
      ap length f.0,
      length-append (texts ++ index) (to_le_bytes w64 (length texts)),
      length-append texts index,
    ) in
    (s.0, same_number size (length texts) little fits s.1)

pub index_size : (es : List Entry) → length (index_of es) ≡ 24 * length es
index_size [] = refl
index_size (e ∷ es) =
    omega (arith, index_size es, length-append (index_of es) (entry_bytes e), entry_size e)

-- bytes that are split where the texts end
pub split_parts : (bytes one two texts index : List ℕ) (format size : ℕ) → bytes ≡ one ++ to_le_bytes w64 format
    → one ≡ two ++ to_le_bytes w64 size → format ≡ FORMAT → size ≤ length two → texts ≡ take size two
    → index ≡ drop size two → with_numbers texts index ≡ bytes
split_parts bytes one two texts index format size last second known fits front back =
    let whole : two ≡ texts ++ index = sym (take-append-drop size two) ∙ (λ i. sym front i ++ sym back i) in
    let long : size ≡ length texts = sym (length-take-le size two fits) ∙ ap length (sym front) in
    with_last texts index two one bytes whole (second ∙ ap (λ (n : ℕ). two ++ to_le_bytes w64 n) long)
    (last ∙ ap (λ (n : ℕ). one ++ to_le_bytes w64 n) known)
