-- Bytes have one last record.
use Rattle.std.proofs.Common.{◌≡◌, refl, sym, ap, ◌∙◌, ℕ, List, [], ◌∷◌, ◌++◌, length, append_assoc, append-nil, arith}
use Rattle.std.proofs.Common.{◌+◌, ◌<◌, ◌≤◌, ◌^◌, w64, true, false, Bool, if◌then◌else◌, ◌==◌, nat_lt, take}
use Rattle.std.proofs.lemmas.List.{length-append, append_cancel_left}
use Rattle.std.proofs.Math.Seq.{take-append_seam}
use Rattle.std.proofs.lemmas.Nat.{from_le_bytes-to_le_bytes_8}
use Rattle.std.specs.Int.{to_le_bytes, from_le_bytes}
use Rattle.cargo_platform.specs.Trees.{CfgValue, Alone, KeyPair}
use Rattle.byte_answers.specs.Flat.{numbers, flat_value, first_of, second_of, tag_of, IsValueOfTexts}
use Rattle.byte_answers.specs.Pieces.{Piece, leaf, yes, no, negation, all_of, any_of, piece_bytes, piece_tag}
use Rattle.byte_answers.specs.Pieces.{first_number, second_number, is_group, IsPieceOfTexts}

-- two lists that end alike, and two that begin alike
pub same_ends : {A : Type 0} (xs ys us vs : List A) → xs ++ ys ≡ us ++ vs → length ys ≡ length vs
    → (xs ≡ us) × (ys ≡ vs)
same_ends {A = A} xs ys us vs same size =
    let fronts : length xs ≡ length us =
    omega (arith, ap length same, length-append xs ys, length-append us vs, size) in
    let front : xs ≡ us =
    sym (take-append_seam xs ys) ∙ ap (λ (n : ℕ). take n (xs ++ ys)) fronts ∙ ap (take (length us)) same
    ∙ take-append_seam us vs in
    (front, append_cancel_left us ys vs (ap (λ (z : List A). z ++ ys) (sym front) ∙ same))

pub same_fronts : {A : Type 0} (xs ys us vs : List A) → xs ++ ys ≡ us ++ vs → length xs ≡ length us
    → (xs ≡ us) × (ys ≡ vs)
same_fronts xs ys us vs same size =
    same_ends xs ys us vs same (omega (arith, ap length same, length-append xs ys, length-append us vs, size))

pub same_number : (a b : ℕ) → a < 2 ^ 64 → b < 2 ^ 64 → to_le_bytes w64 a ≡ to_le_bytes w64 b → a ≡ b
same_number a b small other same =
    sym (from_le_bytes-to_le_bytes_8 a small) ∙ ap (from_le_bytes w64) same ∙ from_le_bytes-to_le_bytes_8 b other

pub record SameNumbers (xs ys : List ℕ) (a b t c d u : ℕ) : Type 0 where
  pub front : xs ≡ ys
  pub first : a ≡ c
  pub second : b ≡ d
  pub tag : t ≡ u

pub same_numbers : (xs ys : List ℕ) (a b t c d u : ℕ) → a < 2 ^ 64 → b < 2 ^ 64 → c < 2 ^ 64 → d < 2 ^ 64
    → xs ++ numbers a b t ≡ ys ++ numbers c d u → SameNumbers xs ys a b t c d u
unfolding numbers
same_numbers xs ys a b t c d u sa sb sc sd same =
    let split : (s : List ℕ) (n m v : ℕ) → s ++ (to_le_bytes w64 n ++ to_le_bytes w64 m ++ v ∷ [])
    ≡ ((s ++ to_le_bytes w64 n) ++ to_le_bytes w64 m) ++ v ∷ [] =
    λ s n m v. sym (append_assoc s (to_le_bytes w64 n ++ to_le_bytes w64 m) (v ∷ []))
    ∙ ap (λ (z : List ℕ). z ++ v ∷ []) (sym (append_assoc s (to_le_bytes w64 n) (to_le_bytes w64 m))) in
    let last = same_ends ((xs ++ to_le_bytes w64 a) ++ to_le_bytes w64 b) (t ∷ [])
    ((ys ++ to_le_bytes w64 c) ++ to_le_bytes w64 d) (u ∷ []) (sym (split xs a b t) ∙ same ∙ split ys c d u) refl in
    let second = same_ends (xs ++ to_le_bytes w64 a) (to_le_bytes w64 b) (ys ++ to_le_bytes w64 c) (to_le_bytes w64 d)
    last.0 refl in
    let first = same_ends xs (to_le_bytes w64 a) ys (to_le_bytes w64 c) second.0 refl in
    let head : t ∷ [] ≡ u ∷ [] = last.1 in
    record {
      front = first.0;
      first = same_number a c sa sc first.1;
      second = same_number b d sb sd second.1;
      tag = cc;
    }

-- the tags alone
pub same_tag : (xs ys : List ℕ) (a b t c d u : ℕ) → xs ++ numbers a b t ≡ ys ++ numbers c d u → t ≡ u
unfolding numbers
same_tag xs ys a b t c d u same =
    let split : (s : List ℕ) (n m v : ℕ) → s ++ (to_le_bytes w64 n ++ to_le_bytes w64 m ++ v ∷ [])
    ≡ (s ++ (to_le_bytes w64 n ++ to_le_bytes w64 m)) ++ v ∷ [] =
    λ s n m v. sym (append_assoc s (to_le_bytes w64 n ++ to_le_bytes w64 m) (v ∷ [])) in
    let last = same_ends (xs ++ (to_le_bytes w64 a ++ to_le_bytes w64 b)) (t ∷ [])
    (ys ++ (to_le_bytes w64 c ++ to_le_bytes w64 d)) (u ∷ []) (sym (split xs a b t) ∙ same ∙ split ys c d u) refl in
    let head : t ∷ [] ≡ u ∷ [] = last.1 in cc

pub numbers_size : (a b t : ℕ) → length (numbers a b t) ≡ 17
unfolding numbers
numbers_size a b t = refl

-- the texts of a piece
abbrev pub firsts : Piece → List ℕ
firsts (leaf c) = first_of c
firsts yes = []
firsts no = []
firsts negation = []
firsts (all_of n) = []
firsts (any_of n) = []

abbrev pub seconds : Piece → List ℕ
seconds (leaf c) = second_of c
seconds yes = []
seconds no = []
seconds negation = []
seconds (all_of n) = []
seconds (any_of n) = []

-- the bytes of a piece after others
pub behind : (front : List ℕ) (p : Piece) → front ++ piece_bytes p
    ≡ ((front ++ firsts p) ++ seconds p) ++ numbers (first_number p) (second_number p) (piece_tag p)
behind front (leaf c) =
    let ends : List ℕ = numbers (length (first_of c)) (length (second_of c)) (tag_of c) in
    sym (append_assoc front (first_of c) (second_of c ++ ends))
    ∙ sym (append_assoc (front ++ first_of c) (second_of c) ends)
behind front yes =
    ap (λ (z : List ℕ). z ++ numbers 0 0 4) (sym (append-nil (front ++ []) ∙ append-nil front))
behind front no = ap (λ (z : List ℕ). z ++ numbers 0 0 5) (sym (append-nil (front ++ []) ∙ append-nil front))
behind front negation = ap (λ (z : List ℕ). z ++ numbers 1 0 6) (sym (append-nil (front ++ []) ∙ append-nil front))
behind front (all_of n) = ap (λ (z : List ℕ). z ++ numbers n 0 7) (sym (append-nil (front ++ []) ∙ append-nil front))
behind front (any_of n) = ap (λ (z : List ℕ). z ++ numbers n 0 8) (sym (append-nil (front ++ []) ∙ append-nil front))

-- how long bytes are that a piece ends
pub record HasPiece (left front : List ℕ) (p : Piece) : Type 0 where
  pub long : 17 ≤ length left
  pub first : length (firsts p) ≤ length left
  pub second : length (seconds p) ≤ length left
  pub shorter : length front < length left

pub piece_sizes : (left front : List ℕ) (p : Piece) → left ≡ front ++ piece_bytes p → HasPiece left front p
piece_sizes left front p same =
    let whole : length left ≡ ((length front + length (firsts p)) + length (seconds p)) + 17 =
    omega (
      arith,
      ap length (same ∙ behind front p),
      length-append ((front ++ firsts p) ++ seconds p)
          (numbers (first_number p) (second_number p) (piece_tag p)),
      length-append (front ++ firsts p) (seconds p),
      length-append front (firsts p),
      numbers_size (first_number p) (second_number p) (piece_tag p),
    ) in
    record { long = omega arith; first = omega arith; second = omega arith; shorter = omega arith }

-- a piece is known by its tag, its texts and its first number
abbrev known_by : ℕ → List ℕ → List ℕ → ℕ → Piece
known_by tag first second n =
    if tag == 0 then leaf (Alone (record { raw = false; name = first }))
    else (if tag == 1 then leaf (Alone (record { raw = true; name = first }))
    else (if tag == 2 then leaf (KeyPair (record { raw = false; name = first }) second)
    else (if tag == 3 then leaf (KeyPair (record { raw = true; name = first }) second)
    else (if tag == 4 then yes
    else (if tag == 5 then no
    else (if tag == 6 then negation
    else (if tag == 7 then all_of n
    else any_of n)))))))

name_known : (raw : Bool) (name : List ℕ) (n : ℕ)
    → known_by (if raw then 1 else 0) name [] n ≡ leaf (Alone (record { raw = raw; name = name }))
name_known true name n = refl
name_known false name n = refl

pair_known : (raw : Bool) (name value : List ℕ) (n : ℕ)
    → known_by (if raw then 3 else 2) name value n ≡ leaf (KeyPair (record { raw = raw; name = name }) value)
pair_known true name value n = refl
pair_known false name value n = refl

known : (p : Piece) → known_by (piece_tag p) (firsts p) (seconds p) (first_number p) ≡ p
known (leaf (Alone n)) = name_known n.raw n.name (length n.name)
known (leaf (KeyPair k v)) = pair_known k.raw k.name v (length k.name)
known yes = refl
known no = refl
known negation = refl
known (all_of n) = refl
known (any_of n) = refl

-- so is the length of its first text
abbrev size_by : ℕ → ℕ → ℕ
size_by tag n = if nat_lt tag 4 then n else 0

name_size : (raw : Bool) (n : ℕ) → n ≡ size_by (if raw then 1 else 0) n
name_size true n = refl
name_size false n = refl

key_size : (raw : Bool) (n : ℕ) → n ≡ size_by (if raw then 3 else 2) n
key_size true n = refl
key_size false n = refl

first_size : (p : Piece) → length (firsts p) ≡ size_by (piece_tag p) (first_number p)
first_size (leaf (Alone n)) = name_size n.raw (length n.name)
first_size (leaf (KeyPair k v)) = key_size k.raw (length k.name)
first_size yes = refl
first_size no = refl
first_size negation = refl
first_size (all_of n) = refl
first_size (any_of n) = refl

second_size : (p : Piece) → length (seconds p) ≡ second_number p
second_size (leaf c) = refl
second_size yes = refl
second_size no = refl
second_size negation = refl
second_size (all_of n) = refl
second_size (any_of n) = refl

-- Bytes have one last record, and one front before it.
pub one_piece : (left xs ys : List ℕ) (p q : Piece) → length left < 2 ^ 64 → first_number p < 2 ^ 64
    → first_number q < 2 ^ 64 → left ≡ xs ++ piece_bytes p → left ≡ ys ++ piece_bytes q → (xs ≡ ys) × (p ≡ q)
one_piece left xs ys p q small ps qs one other =
    let long = piece_sizes left xs p one in
    let big = piece_sizes left ys q other in
    let s = same_numbers ((xs ++ firsts p) ++ seconds p) ((ys ++ firsts q) ++ seconds q) (first_number p)
    (second_number p) (piece_tag p) (first_number q) (second_number q) (piece_tag q) ps
    (omega (arith, long.second, second_size p)) qs (omega (arith, big.second, second_size q))
    (sym (behind xs p) ∙ sym one ∙ other ∙ behind ys q) in
    let outer = same_ends (xs ++ firsts p) (seconds p) (ys ++ firsts q) (seconds q) s.front
    (second_size p ∙ s.second ∙ sym (second_size q)) in
    let inner = same_ends xs (firsts p) ys (firsts q) outer.0
    (first_size p ∙ ap (λ (t : ℕ). size_by t (first_number p)) s.tag
    ∙ ap (λ (n : ℕ). size_by (piece_tag q) n) s.first ∙ sym (first_size q)) in (
      inner.0,
      sym (known p)
          ∙ ap (λ (t : ℕ). known_by t (firsts p) (seconds p) (first_number p)) s.tag
          ∙ ap (λ (z : List ℕ). known_by (piece_tag q) z (seconds p) (first_number p)) inner.1
          ∙ ap (λ (z : List ℕ). known_by (piece_tag q) (firsts q) z (first_number p)) outer.1
          ∙ ap (λ (n : ℕ). known_by (piece_tag q) (firsts q) (seconds q) n) s.first
          ∙ known q,
    )

-- a record of two texts after others
pub record_behind : (front first second : List ℕ) (tag : ℕ) → front ++ (first ++ (second ++ numbers (length first)
    (length second) tag)) ≡ (front ++ (first ++ second)) ++ numbers (length first) (length second) tag
record_behind front first second tag =
    let ends : List ℕ = numbers (length first) (length second) tag in
    ap (λ (z : List ℕ). front ++ z) (sym (append_assoc first second ends))
    ∙ sym (append_assoc front (first ++ second) ends)

-- the numbers that end a value are those of the value
pub value_numbers : (before front : List ℕ) (a b tag : ℕ) (c : CfgValue) → length before + 17 < 2 ^ 64 → a < 2 ^ 64
    → b < 2 ^ 64 → before ++ numbers a b tag ≡ front ++ flat_value c
    → SameNumbers before (front ++ (first_of c ++ second_of c)) a b tag (length (first_of c)) (length (second_of c))
    (tag_of c)
value_numbers before front a b tag c small sa sb same =
    let h = piece_sizes (before ++ numbers a b tag) front (leaf c) same in
    let size : length (before ++ numbers a b tag) ≡ length before + 17 =
    length-append before (numbers a b tag) ∙ ap (λ (n : ℕ). length before + n) (numbers_size a b tag) in
    same_numbers before (front ++ (first_of c ++ second_of c)) a b tag (length (first_of c)) (length (second_of c))
    (tag_of c) sa sb (omega (arith, h.first, size)) (omega (arith, h.second, size))
    (same ∙ record_behind front (first_of c) (second_of c) (tag_of c))

-- two texts of the same lengths at the end
pub same_texts : (front first second before one other : List ℕ)
    → front ++ (first ++ second) ≡ before ++ (one ++ other) → length first ≡ length one → length second ≡ length other
    → (front ≡ before) × (first ≡ one) × (second ≡ other)
same_texts front first second before one other same a b =
    let outer = same_ends (front ++ first) second (before ++ one) other
    (append_assoc front first second ∙ same ∙ sym (append_assoc before one other)) b in
    let inner = same_ends front first before one outer.0 a in
    (inner.0, inner.1, outer.1)

tag_small : (raw : Bool) → (if raw then 1 else 0) < 4
tag_small true = omega arith
tag_small false = omega arith

pair_small : (raw : Bool) → (if raw then 3 else 2) < 4
pair_small true = omega arith
pair_small false = omega arith

pub value_tag : (c : CfgValue) → tag_of c < 4
value_tag (Alone n) = tag_small n.raw
value_tag (KeyPair k v) = pair_small k.raw

-- the tag that bytes end in is that of their last record
pub ending_tag : (bytes before front : List ℕ) (a b tag : ℕ) (p : Piece) → bytes ≡ before ++ numbers a b tag
    → bytes ≡ front ++ piece_bytes p → tag ≡ piece_tag p
ending_tag bytes before front a b tag p one other =
    same_tag before ((front ++ firsts p) ++ seconds p) a b tag (first_number p) (second_number p) (piece_tag p)
    (sym one ∙ other ∙ behind front p)

-- bytes that no value ends, with the tag of one, are ended by no record
pub no_value : (bytes before front : List ℕ) (a b tag : ℕ) (p : Piece) → bytes ≡ before ++ numbers a b tag → tag < 4
    → ((front : List ℕ) (c : CfgValue) → IsValueOfTexts c → before ++ numbers a b tag ≡ front ++ flat_value c → ⊥)
    → IsPieceOfTexts p → bytes ≡ front ++ piece_bytes p → ⊥
no_value bytes before front a b tag (leaf c) one low never texts other = never front c texts (sym one ∙ other)
no_value bytes before front a b tag yes one low never texts other =
    omega (arith, ending_tag bytes before front a b tag yes one other)
no_value bytes before front a b tag no one low never texts other =
    omega (arith, ending_tag bytes before front a b tag no one other)
no_value bytes before front a b tag negation one low never texts other =
    omega (arith, ending_tag bytes before front a b tag negation one other)
no_value bytes before front a b tag (all_of n) one low never texts other =
    omega (arith, ending_tag bytes before front a b tag (all_of n) one other)
no_value bytes before front a b tag (any_of n) one low never texts other =
    omega (arith, ending_tag bytes before front a b tag (any_of n) one other)

-- and so are those with numbers that no group has
group_known : (p : Piece) → 4 ≤ piece_tag p → is_group (piece_tag p) (first_number p) (second_number p) ≡ true
group_known (leaf c) high = absurd (omega (arith, value_tag c))
group_known yes high = refl
group_known no high = refl
group_known negation high = refl
group_known (all_of n) high = refl
group_known (any_of n) high = refl

pub no_group : (bytes before front : List ℕ) (a b tag : ℕ) (p : Piece) → length bytes < 2 ^ 64 → a < 2 ^ 64
    → b < 2 ^ 64 → first_number p < 2 ^ 64 → bytes ≡ before ++ numbers a b tag → 4 ≤ tag → is_group tag a b ≡ false
    → bytes ≡ front ++ piece_bytes p → ⊥
no_group bytes before front a b tag p small sa sb number one high never other =
    let h = piece_sizes bytes front p other in
    let s = same_numbers before ((front ++ firsts p) ++ seconds p) a b tag (first_number p) (second_number p)
    (piece_tag p) sa sb number (omega (arith, h.second, second_size p)) (sym one ∙ other ∙ behind front p) in
    let same : is_group tag a b ≡ is_group (piece_tag p) (first_number p) (second_number p) =
    ap (λ (t : ℕ). is_group t a b) s.tag ∙ ap (λ (n : ℕ). is_group (piece_tag p) n b) s.first
    ∙ ap (λ (n : ℕ). is_group (piece_tag p) (first_number p) n) s.second in
    let two : true ≡ false = sym (group_known p (omega (arith, s.tag))) ∙ sym same ∙ never in
    cc

-- the numbers of a target's name
pub name_numbers : (before name : List ℕ) (a b tag : ℕ) → length before + 17 < 2 ^ 64 → a < 2 ^ 64 → b < 2 ^ 64
    → before ++ numbers a b tag ≡ name ++ numbers (length name) 0 tag
    → SameNumbers before name a b tag (length name) 0 tag
name_numbers before name a b tag small sa sb same =
    same_numbers before name a b tag (length name) 0 tag sa sb
    (omega (
      arith,
      ap length same,
      length-append before (numbers a b tag),
      length-append name (numbers (length name) 0 tag),
      numbers_size a b tag,
      numbers_size (length name) 0 tag,
    )) (omega arith) same

pub not_zero : (n : ℕ) → false ≡ (n == 0) → n ≡ 0 → ⊥
not_zero n is zero = let two : false ≡ true = is ∙ ap (λ (m : ℕ). m == 0) zero in cc
