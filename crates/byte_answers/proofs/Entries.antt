-- Prepared facts: entries are read back, and an index stands for one set of facts.
use Rattle.std.proofs.Common.{◌≡◌, refl, sym, ap, ◌∙◌, subst, ℕ, List, [], ◌∷◌, ◌++◌, length, append_assoc}
use Rattle.std.proofs.Common.{arith, inl, inr, true, false, Bool, ◌<◌}
use Rattle.std.proofs.Common.{w64}
use Rattle.std.specs.Prelude.{◌⊎◌, ◌↔◌, IsTrue}
use Rattle.std.specs.Int.{to_le_bytes}
use Rattle.std.proofs.lemmas.List.{length-append}
use Rattle.cargo_platform.specs.Facts.{Pair}
use Rattle.byte_answers.specs.Prepared.{Entry, entry_bytes, IsEntry, AreEntries, index_of}
use Rattle.byte_answers.specs.Prepared.{IsFactOf, HasFactOf}
use Rattle.byte_answers.proofs.Flats.{pushed}
use Rattle.byte_answers.proofs.Pieces.{same_ends, same_number}

pub entry_size : (e : Entry) → length (entry_bytes e) ≡ 24
unfolding entry_bytes
entry_size e = refl

-- an entry is read number by number from its end, and written from its beginning
pub entry_behind : (whole one two before : List ℕ) (a b t : ℕ) → one ≡ before ++ to_le_bytes w64 a
    → two ≡ one ++ to_le_bytes w64 b → whole ≡ two ++ to_le_bytes w64 t
    → whole ≡ before ++ entry_bytes (record { start = a; name_size = b; mark = t })
unfolding entry_bytes
entry_behind whole one two before a b t first second third =
    pushed before (to_le_bytes w64 a) (to_le_bytes w64 b) (to_le_bytes w64 t) one two whole first second third

pub record SameEntry (xs ys : List ℕ) (d e : Entry) : Type 0 where
  pub front : xs ≡ ys
  pub entry : d ≡ e

-- bytes have one last entry
pub one_entry : (xs ys : List ℕ) (d e : Entry) → IsEntry d → IsEntry e → xs ++ entry_bytes d ≡ ys ++ entry_bytes e
    → SameEntry xs ys d e
unfolding entry_bytes
one_entry xs ys d e sd se same =
    let split : (s : List ℕ) (f : Entry)
    → s ++ (to_le_bytes w64 f.start ++ to_le_bytes w64 f.name_size ++ to_le_bytes w64 f.mark)
    ≡ ((s ++ to_le_bytes w64 f.start) ++ to_le_bytes w64 f.name_size) ++ to_le_bytes w64 f.mark =
    λ s f. sym (append_assoc s (to_le_bytes w64 f.start ++ to_le_bytes w64 f.name_size) (to_le_bytes w64 f.mark))
    ∙ ap (λ (z : List ℕ). z ++ to_le_bytes w64 f.mark)
    (sym (append_assoc s (to_le_bytes w64 f.start) (to_le_bytes w64 f.name_size))) in
    let last = same_ends ((xs ++ to_le_bytes w64 d.start) ++ to_le_bytes w64 d.name_size) (to_le_bytes w64 d.mark)
    ((ys ++ to_le_bytes w64 e.start) ++ to_le_bytes w64 e.name_size) (to_le_bytes w64 e.mark)
    (sym (split xs d) ∙ same ∙ split ys e) refl in
    let second = same_ends (xs ++ to_le_bytes w64 d.start) (to_le_bytes w64 d.name_size)
    (ys ++ to_le_bytes w64 e.start) (to_le_bytes w64 e.name_size) last.0 refl in
    let first = same_ends xs (to_le_bytes w64 d.start) ys (to_le_bytes w64 e.start) second.0 refl in
    let starts = same_number d.start e.start sd.0 se.0 first.1 in
    let sizes = same_number d.name_size e.name_size sd.1 se.1 second.1 in
    let marks = same_number d.mark e.mark sd.2 se.2 last.1 in
    record { front = first.0; entry = λ i. record { start = starts i; name_size = sizes i; mark = marks i } }

-- an index that ends in an entry has it as its last one
pub next_entry : (left before : List ℕ) (d : Entry) (es : List Entry) → IsEntry d → AreEntries es
    → index_of es ≡ left → left ≡ before ++ entry_bytes d
    → (rest : List Entry) × (AreEntries rest × (index_of rest ≡ before) × (es ≡ d ∷ rest))
next_entry left before d [] sd w is one =
    absurd (omega (arith, ap length (is ∙ one), length-append before (entry_bytes d), entry_size d))
next_entry left before d (e ∷ es) sd w is one =
    let s = one_entry (index_of es) before e d w.0 sd (is ∙ one) in
    (es, (w.1, s.front, ap (λ (z : Entry). z ∷ es) s.entry))

-- an index of fewer bytes than an entry has none
pub none_left : (texts left : List ℕ) (es : List Entry) (q : Pair) → index_of es ≡ left → length left < 24
    → HasFactOf texts es q → ⊥
none_left texts left [] q is few h = h
none_left texts left (e ∷ es) q is few h =
    omega (arith, ap length is, length-append (index_of es) (entry_bytes e), entry_size e)

pub is_false : (b : Bool) (P : Type 0) → IsTrue b ↔ P → (P → ⊥) → false ≡ b
is_false true P same never = absurd (never (same.0 refl))
is_false false P same never = refl

-- a fact that is not the last entry's is of one of the others
other : {F R : Type 0} → (F → ⊥) → F ⊎ R → R
other never (inl f) = absurd (never f)
other never (inr r) = r

pub others : (b : Bool) (texts : List ℕ) (d : Entry) (es rest : List Entry) (q : Pair) → es ≡ d ∷ rest
    → (IsFactOf texts d q → ⊥) → IsTrue b ↔ HasFactOf texts es q → IsTrue b ↔ HasFactOf texts rest q
others b texts d es rest q is never same =
    let known : IsTrue b ↔ HasFactOf texts (d ∷ rest) q =
    subst (λ (z : List Entry). IsTrue b ↔ HasFactOf texts z q) is same in
    (λ t. other never (known.0 t), λ r. known.1 (inr r))

pub last_one : (b : Bool) (texts : List ℕ) (d : Entry) (es rest : List Entry) (q : Pair) → es ≡ d ∷ rest
    → IsFactOf texts d q → IsTrue b ↔ HasFactOf texts es q → true ≡ b
last_one b texts d es rest q is fact same =
    let known : IsTrue b ↔ HasFactOf texts (d ∷ rest) q =
    subst (λ (z : List Entry). IsTrue b ↔ HasFactOf texts z q) is same in
    sym (known.1 (inl fact))

pub entry_shorter : (left before : List ℕ) (d : Entry) → left ≡ before ++ entry_bytes d → length before < length left
entry_shorter left before d is =
    omega (arith, ap length is, length-append before (entry_bytes d), entry_size d)
