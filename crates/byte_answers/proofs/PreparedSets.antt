-- Each index of whole entries stands for a set of facts, and the entries of facts stand for their set.
use Rattle.std.proofs.Common.{◌≡◌, refl, sym, ap, ◌∙◌, subst, ℕ, zero, suc, List, [], ◌∷◌, ◌++◌, length, append_assoc}
use Rattle.std.proofs.Common.{arith, inl, inr, Option, Some, None, take, drop, ◌+◌, ◌*◌, ◌-◌, ◌<◌, ◌≤◌, ◌^◌}
use Rattle.std.proofs.Common.{w64, get_or, append-nil, Bool, true, false, ◌||◌, map, eqb, ◌≢◌, set}
use Rattle.std.proofs.Common.{get_or-set_other, get_or-set_same}
use Rattle.std.specs.Prelude.{⊤, ◌⊎◌, ◌↔◌, IsTrue}
use Rattle.std.specs.Int.{to_le_bytes, from_le_bytes}
use Rattle.std.specs.Ordering.{eq_by_cmp}
use Rattle.std.specs.Cmp.{Equal-is, eq_by_cmp_equiv}
use Rattle.std.specs.FinSet.{contains, contains-from_list}
use Rattle.std.proofs.lemmas.Bool.{cases_lt, cases_eq, eqb-true}
use Rattle.std.proofs.lemmas.List.{length-append, length-take-le, length-drop, take-append-drop, get_or-drop}
use Rattle.std.proofs.lemmas.List.{nil_from_length}
use Rattle.std.proofs.lemmas.Nat.{le_bytes_8}
use Rattle.cargo_platform.specs.Trees.{CfgValue, Alone, KeyPair}
use Rattle.cargo_platform.specs.Facts.{Pair, FactSet, pair_of, pair_cmp, fact_set}
use Rattle.cargo_platform.proofs.FactSets.{pairs_total}
use Rattle.cargo_platform.proofs.FactTruths.{pair_tie}
use Rattle.byte_answers.specs.Prepared.{Entry, entry_bytes, AreEntries, index_of, fact_texts, value_mark}
use Rattle.byte_answers.specs.Prepared.{value_text, IsAt, IsFactOf, HasFactOf, Means, Admits, hash}
use Rattle.byte_answers.proofs.Pieces.{same_fronts}
use Rattle.byte_answers.proofs.Entries.{entry_behind}

-- two facts with the same texts, length of the name and mark are one
marks_values : (u v : Option (List ℕ)) → value_mark u ≡ value_mark v → value_text u ≡ value_text v → u ≡ v
marks_values None None mark text = refl
marks_values None (Some v) mark text = absurd (omega (arith, mark))
marks_values (Some u) None mark text = absurd (omega (arith, mark))
marks_values (Some u) (Some v) mark text = ap Some text

value_size : (u v : Option (List ℕ)) → value_mark u ≡ value_mark v → length (value_text u) ≡ length (value_text v)
value_size None None mark = refl
value_size None (Some v) mark = absurd (omega (arith, mark))
value_size (Some u) None mark = absurd (omega (arith, mark))
value_size (Some u) (Some v) mark = omega (arith, mark)

-- an entry has at most one fact
pub one_fact : (texts : List ℕ) (e : Entry) (q r : Pair) → IsFactOf texts e q → IsFactOf texts e r → q ≡ r
one_fact texts e q r ((front, rest, (is, start)), size, mark) ((other, more, (has, place)), count, number) =
    let s = same_fronts front (fact_texts q ++ rest) other (fact_texts r ++ more) (sym is ∙ has) (start ∙ sym place) in
    let n = same_fronts q.name (value_text q.value ++ rest) r.name (value_text r.value ++ more)
    (sym (append_assoc q.name (value_text q.value) rest) ∙ s.1 ∙ append_assoc r.name (value_text r.value) more)
    (sym size ∙ count) in
    let marks : value_mark q.value ≡ value_mark r.value = sym mark ∙ number in
    let v = same_fronts (value_text q.value) rest (value_text r.value) more n.1 (value_size q.value r.value marks) in
    let values = marks_values q.value r.value marks v.0 in
    λ i. record { name = n.0 i; value = values i }

-- the set of a list has the first fact, and those of the others
no_fact_in : (q : Pair) → IsTrue (contains (fact_set []) q) → ⊥
no_fact_in q is = let never : false ≡ true = sym (contains-from_list pairs_total [] q) ∙ is in cc

or_cases : (a b : Bool) → (a || b) ≡ true → (a ≡ true) ⊎ (b ≡ true)
or_cases true b is = inl refl
or_cases false b is = inr is

or_first : (a b : Bool) → a ≡ true → (a || b) ≡ true
or_first a b is = ap (λ x. x || b) is

or_second : (a b : Bool) → b ≡ true → (a || b) ≡ true
or_second true b is = refl
or_second false b is = is

parted : (c : CfgValue) (cs : List CfgValue) (q : Pair)
    → contains (fact_set (c ∷ cs)) q ≡ (eq_by_cmp pair_cmp q (pair_of c) || contains (fact_set cs) q)
parted c cs q =
    contains-from_list pairs_total (map pair_of (c ∷ cs)) q
    ∙ ap (λ x. eq_by_cmp pair_cmp q (pair_of c) || x) (sym (contains-from_list pairs_total (map pair_of cs) q))

first_in : (c : CfgValue) (cs : List CfgValue) → IsTrue (contains (fact_set (c ∷ cs)) (pair_of c))
first_in c cs =
    parted c cs (pair_of c)
    ∙ or_first (eq_by_cmp pair_cmp (pair_of c) (pair_of c)) (contains (fact_set cs) (pair_of c))
    ((eq_by_cmp_equiv pairs_total).refl (pair_of c))

others_in : (c : CfgValue) (cs : List CfgValue) (q : Pair) → IsTrue (contains (fact_set cs) q)
    → IsTrue (contains (fact_set (c ∷ cs)) q)
others_in c cs q is =
    parted c cs q ∙ or_second (eq_by_cmp pair_cmp q (pair_of c)) (contains (fact_set cs) q) is

cases_in : (c : CfgValue) (cs : List CfgValue) (q : Pair) → IsTrue (contains (fact_set (c ∷ cs)) q)
    → (q ≡ pair_of c) ⊎ IsTrue (contains (fact_set cs) q)
cases_in c cs q is =
    elim (or_cases (eq_by_cmp pair_cmp q (pair_of c)) (contains (fact_set cs) q) (sym (parted c cs q) ∙ is)) [
      | inl same ↦ inl (pair_tie q (pair_of c) ((Equal-is (pair_cmp q (pair_of c))).0 same))
      | inr there ↦ inr there
    ]

-- a set with one more fact has one more entry
abbrev SameSet : List ℕ → List Entry → List CfgValue → Type 0
SameSet texts es cs = (q : Pair) → IsTrue (contains (fact_set cs) q) ↔ HasFactOf texts es q

one_more : (texts : List ℕ) (e : Entry) (es : List Entry) (c : CfgValue) (cs : List CfgValue)
    → IsFactOf texts e (pair_of c) → SameSet texts es cs → SameSet texts (e ∷ es) (c ∷ cs)
one_more texts e es c cs fact same =
    λ q. (
      λ is. elim (cases_in c cs q is) [
        | inl one ↦ inl (subst (λ (z : Pair). IsFactOf texts e z) (sym one) fact)
        | inr there ↦ inr ((same q).0 there)
      ],
      λ has. elim has [
        | inl one ↦
            subst (λ (z : Pair). IsTrue (contains (fact_set (c ∷ cs)) z)) (one_fact texts e (pair_of c) q fact one)
            (first_in c cs)
        | inr there ↦ others_in c cs q ((same q).1 there)
      ],
    )

no_more : (texts : List ℕ) (e : Entry) (es : List Entry) (cs : List CfgValue)
    → ((q : Pair) → IsFactOf texts e q → ⊥) → SameSet texts es cs → SameSet texts (e ∷ es) cs
no_more texts e es cs never same =
    λ q. (
      λ is. inr ((same q).0 is),
      λ has. elim has [ inl one ↦ absurd (never q one) | inr there ↦ (same q).1 there ],
    )

none_more : (texts : List ℕ) → SameSet texts [] []
none_more texts = λ q. (no_fact_in q, λ has. absurd has)

-- ---- the entries of facts

abbrev pub AreOf : List ℕ → List Entry → List CfgValue → Type 0
AreOf texts [] [] = ⊤
AreOf texts [] (c ∷ cs) = ⊥
AreOf texts (e ∷ es) [] = ⊥
AreOf texts (e ∷ es) (c ∷ cs) = IsFactOf texts e (pair_of c) × AreOf texts es cs

pub same_set_of : (texts : List ℕ) (es : List Entry) (cs : List CfgValue) → AreOf texts es cs → SameSet texts es cs
same_set_of texts [] [] are = none_more texts
same_set_of texts [] (c ∷ cs) are = absurd are
same_set_of texts (e ∷ es) [] are = absurd are
same_set_of texts (e ∷ es) (c ∷ cs) are = one_more texts e es c cs are.0 (same_set_of texts es cs are.1)

stays : (texts more : List ℕ) (e : Entry) (q : Pair) → IsFactOf texts e q → IsFactOf (texts ++ more) e q
stays texts more e q ((front, rest, (is, start)), size, mark) = (
  (
    front,
    rest ++ more,
    (
      ap (λ (z : List ℕ). z ++ more) is
          ∙ append_assoc front (fact_texts q ++ rest) more
          ∙ ap (λ (z : List ℕ). front ++ z) (append_assoc (fact_texts q) rest more),
      start,
    ),
  ),
  size,
  mark,
)

pub stay : (texts more : List ℕ) (es : List Entry) (cs : List CfgValue) → AreOf texts es cs
    → AreOf (texts ++ more) es cs
stay texts more [] [] are = are
stay texts more [] (c ∷ cs) are = are
stay texts more (e ∷ es) [] are = are
stay texts more (e ∷ es) (c ∷ cs) are = (stays texts more e (pair_of c) are.0, stay texts more es cs are.1)

-- the entry of a fact whose texts are appended
pub appended : (texts new : List ℕ) (q : Pair) → new ≡ texts ++ fact_texts q
    → IsFactOf new (record { start = length texts; name_size = length q.name; mark = value_mark q.value }) q
appended texts new q is = (
  (texts, [], (is ∙ ap (λ (z : List ℕ). texts ++ z) (sym (append-nil (fact_texts q))), refl)),
  refl,
  refl,
)

-- ---- the facts that a filter admits

is_admitted : List ℕ → CfgValue → Bool
is_admitted filter c = eqb (get_or filter (hash (fact_texts (pair_of c))) 0) 1

keep : Bool → CfgValue → List CfgValue → List CfgValue
keep true c cs = c ∷ cs
keep false c cs = cs

admitted_of : List ℕ → List CfgValue → List CfgValue
admitted_of filter [] = []
admitted_of filter (c ∷ cs) = keep (is_admitted filter c) c (admitted_of filter cs)

abbrev Admitted : List ℕ → List CfgValue → List CfgValue → Type 0
Admitted filter cs kept =
    (q : Pair) → IsTrue (contains (fact_set kept) q)
    ↔ (Admits filter (fact_texts q) × IsTrue (contains (fact_set cs) q))

kept_in : (filter : List ℕ) (c : CfgValue) (cs kept : List CfgValue) (b : Bool) → is_admitted filter c ≡ b
    → Admitted filter cs kept → Admitted filter (c ∷ cs) (keep b c kept)
unfolding is_admitted keep
kept_in filter c cs kept true is others =
    λ q. (
      λ has. elim (cases_in c kept q has) [
        | inl same ↦ (
          subst (λ (z : Pair). Admits filter (fact_texts z)) (sym same)
              (eqb-true (get_or filter (hash (fact_texts (pair_of c))) 0) 1 is),
          subst (λ (z : Pair). IsTrue (contains (fact_set (c ∷ cs)) z)) (sym same) (first_in c cs),
        )
        | inr there ↦ let o = (others q).0 there in (o.0, others_in c cs q o.1)
      ],
      λ has. elim (cases_in c cs q has.1) [
        | inl same ↦ subst (λ (z : Pair). IsTrue (contains (fact_set (c ∷ kept)) z)) (sym same) (first_in c kept)
        | inr there ↦ others_in c kept q ((others q).1 (has.0, there))
      ],
    )
kept_in filter c cs kept false is others =
    λ q. (
      λ has. let o = (others q).0 has in (o.0, others_in c cs q o.1),
      λ has. elim (cases_in c cs q has.1) [
        | inl same ↦
            let admitted : Admits filter (fact_texts (pair_of c)) =
            subst (λ (z : Pair). Admits filter (fact_texts z)) same has.0 in
            let two : false ≡ true = sym is ∙ ap (λ (n : ℕ). eqb n 1) admitted in cc
        | inr there ↦ (others q).1 (has.0, there)
      ],
    )

admitted_in : (filter : List ℕ) (cs : List CfgValue) → Admitted filter cs (admitted_of filter cs)
unfolding admitted_of
admitted_in filter [] = λ q. (λ has. absurd (no_fact_in q has), λ has. absurd (no_fact_in q has.1))
admitted_in filter (c ∷ cs) =
    kept_in filter c cs (admitted_of filter cs) (is_admitted filter c) refl (admitted_in filter cs)

-- a filter that admits each fact of a list
abbrev pub AreAdmitted : List ℕ → List CfgValue → Type 0
AreAdmitted filter [] = ⊤
AreAdmitted filter (c ∷ cs) = Admits filter (fact_texts (pair_of c)) × AreAdmitted filter cs

pub admitted_fact : (texts filter : List ℕ) (es : List Entry) (cs : List CfgValue) (q : Pair) → AreOf texts es cs
    → AreAdmitted filter cs → HasFactOf texts es q → Admits filter (fact_texts q)
admitted_fact texts filter [] [] q are admitted has = absurd has
admitted_fact texts filter [] (c ∷ cs) q are admitted has = absurd are
admitted_fact texts filter (e ∷ es) [] q are admitted has = absurd are
admitted_fact texts filter (e ∷ es) (c ∷ cs) q are admitted has =
    elim has [
      | inl one ↦
          subst (λ (z : Pair). Admits filter (fact_texts z)) (one_fact texts e (pair_of c) q are.0 one) admitted.0
      | inr there ↦ admitted_fact texts filter es cs q are.1 admitted.1 there
    ]

-- a byte that becomes 1 takes no fact out of a filter
stays_admitted : (filter : List ℕ) (place n : ℕ) → (n ≡ place) ⊎ (n ≢ place) → place < length filter
    → get_or filter n 0 ≡ 1 → get_or (set filter place 1) n 0 ≡ 1
stays_admitted filter place n (inl same) fits is =
    ap (λ (k : ℕ). get_or (set filter place 1) k 0) same ∙ get_or-set_same filter place 1 0 fits
stays_admitted filter place n (inr other) fits is = get_or-set_other filter place n 1 0 other ∙ is

pub stay_admitted : (filter : List ℕ) (place : ℕ) (cs : List CfgValue) → place < length filter
    → AreAdmitted filter cs → AreAdmitted (set filter place 1) cs
stay_admitted filter place [] fits are = are
stay_admitted filter place (c ∷ cs) fits are = (
  stays_admitted filter place (hash (fact_texts (pair_of c))) (cases_eq (hash (fact_texts (pair_of c))) place) fits
      are.0,
  stay_admitted filter place cs fits are.1,
)

-- ---- any index of whole entries

fact_fits : (texts : List ℕ) (e : Entry) (q : Pair) → IsFactOf texts e q
    → e.start + (e.name_size + length (value_text q.value)) ≤ length texts
fact_fits texts e q ((front, rest, (is, start)), size, mark) =
    omega (
      arith,
      ap length is,
      length-append front (fact_texts q ++ rest),
      length-append (fact_texts q) rest,
      length-append q.name (value_text q.value),
      start,
      size,
    )

mark_size : (u : Option (List ℕ)) (n : ℕ) → suc n ≡ value_mark u → length (value_text u) ≡ n
mark_size None n is = absurd (omega (arith, is))
mark_size (Some v) n is = omega (arith, is)

part_at : (texts : List ℕ) (start size : ℕ) → start + size ≤ length texts
    → IsAt texts start (take size (drop start texts))
part_at texts start size fits = (
  take start texts,
  drop size (drop start texts),
  (
    sym (take-append-drop start texts)
        ∙ ap (λ (z : List ℕ). take start texts ++ z) (sym (take-append-drop size (drop start texts))),
    length-take-le start texts (omega (arith, fits)),
  ),
)

part_size : (texts : List ℕ) (start size : ℕ) → start + size ≤ length texts
    → length (take size (drop start texts)) ≡ size
part_size texts start size fits =
    length-take-le size (drop start texts) (omega (arith, fits, length-drop start texts))

abbrev SomeSet : List ℕ → List Entry → Type 0
SomeSet texts es = (cs : List CfgValue) × SameSet texts es cs

with_name : (texts : List ℕ) (start size : ℕ) (es : List Entry)
    → (length texts < start + size) ⊎ (start + size ≤ length texts) → SomeSet texts es
    → SomeSet texts (record { start = start; name_size = size; mark = 0 } ∷ es)
with_name texts start size es (inl short) (cs, same) =
    let e : Entry = record { start = start; name_size = size; mark = 0 } in
    (cs, no_more texts e es cs (λ q fact. omega (arith, short, fact_fits texts e q fact)) same)
with_name texts start size es (inr fits) (cs, same) =
    let e : Entry = record { start = start; name_size = size; mark = 0 } in
    let name : List ℕ = take size (drop start texts) in
    let c : CfgValue = Alone (record { raw = false; name = name }) in (
      c ∷ cs,
      one_more texts e es c cs (
        subst (λ (z : List ℕ). IsAt texts start z) (sym (append-nil name)) (part_at texts start size fits),
        sym (part_size texts start size fits),
        refl,
      )
          same,
    )

with_pair : (texts : List ℕ) (start size n : ℕ) (es : List Entry)
    → (length texts < start + (size + n)) ⊎ (start + (size + n) ≤ length texts) → SomeSet texts es
    → SomeSet texts (record { start = start; name_size = size; mark = suc n } ∷ es)
with_pair texts start size n es (inl short) (cs, same) =
    let e : Entry = record { start = start; name_size = size; mark = suc n } in (
      cs,
      no_more texts e es cs
          (λ q fact. omega (arith, short, fact_fits texts e q fact, mark_size q.value n (fact.2))) same,
    )
with_pair texts start size n es (inr fits) (cs, same) =
    let e : Entry = record { start = start; name_size = size; mark = suc n } in
    let part : List ℕ = take (size + n) (drop start texts) in
    let long : length part ≡ size + n = part_size texts start (size + n) fits in
    let c : CfgValue = KeyPair (record { raw = false; name = take size part }) (drop size part) in (
      c ∷ cs,
      one_more texts e es c cs (
        subst (λ (z : List ℕ). IsAt texts start z) (sym (take-append-drop size part))
            (part_at texts start (size + n) fits),
        sym (length-take-le size part (omega (arith, long))),
        ap suc (omega (arith, long, length-drop size part)),
      )
          same,
    )

with_entry : (texts : List ℕ) (start size mark : ℕ) (es : List Entry) → SomeSet texts es
    → SomeSet texts (record { start = start; name_size = size; mark = mark } ∷ es)
with_entry texts start size zero es others =
    with_name texts start size es (cases_lt (length texts) (start + size)) others
with_entry texts start size (suc n) es others =
    with_pair texts start size n es (cases_lt (length texts) (start + (size + n))) others

pub some_set : (texts : List ℕ) (es : List Entry) → SomeSet texts es
some_set texts [] = ([], none_more texts)
some_set texts (e ∷ es) = with_entry texts e.start e.name_size e.mark es (some_set texts es)

small_take : (n : ℕ) (xs : List ℕ) → ((i : ℕ) → get_or xs i 0 < 256) → (i : ℕ) → get_or (take n xs) i 0 < 256
small_take zero xs small i = omega arith
small_take (suc n) [] small i = small i
small_take (suc n) (x ∷ xs) small zero = small 0
small_take (suc n) (x ∷ xs) small (suc i) = small_take n xs (λ k. small (suc k)) i

read_small : (bs : List ℕ) (n : ℕ) → ((i : ℕ) → get_or bs i 0 < 256) → n ≡ from_le_bytes w64 bs → n < 2 ^ 64
read_small bs n small is =
    omega (arith, is, small 0, small 1, small 2, small 3, small 4, small 5, small 6, small 7)

-- the last 8 bytes are a number
record HasNumber (xs : List ℕ) : Type 0 where
  pub before : List ℕ
  pub number : ℕ
  pub fits : number < 2 ^ 64
  pub is : xs ≡ before ++ to_le_bytes w64 number
  pub size : length before + 8 ≡ length xs
  pub small : (i : ℕ) → get_or before i 0 < 256

number_last : (xs : List ℕ) → 8 ≤ length xs → ((i : ℕ) → get_or xs i 0 < 256) → HasNumber xs
number_last xs long small =
    let m : ℕ = length xs - 8 in
    let last : List ℕ = drop m xs in
    let n : ℕ = from_le_bytes w64 last in
    let eight : length last ≡ 8 = length-drop m xs ∙ omega (arith, long) in
    let bounded : (i : ℕ) → get_or last i 0 < 256 = λ i. rw (get_or-drop m xs i 0) (small (m + i)) in
    record {
      before = take m xs;
      number = n;
      fits = read_small last n bounded refl;
      is =
          sym (take-append-drop m xs)
          ∙ ap (λ (z : List ℕ). take m xs ++ z) (sym (le_bytes_8 last n eight bounded refl));
      size = omega (arith, long, length-take-le m xs (omega (arith, long)));
      small = small_take m xs small;
    }

pub some_entries : (k : ℕ) (index : List ℕ) → length index ≡ 24 * k → ((i : ℕ) → get_or index i 0 < 256)
    → (es : List Entry) × (AreEntries es × (index_of es ≡ index))
some_entries zero index size small = ([], (tt, sym (nil_from_length index (omega (arith, size)))))
some_entries (suc k) index size small =
    let last = number_last index (omega (arith, size)) small in
    let second = number_last last.before (omega (arith, size, last.size)) last.small in
    let first = number_last second.before (omega (arith, size, last.size, second.size)) second.small in
    let others = some_entries k first.before (omega (arith, size, last.size, second.size, first.size)) first.small in
    let e : Entry = record { start = first.number; name_size = second.number; mark = last.number } in (
      e ∷ others.0,
      (
        ((first.fits, second.fits, last.fits), others.1.0),
        ap (λ (z : List ℕ). z ++ entry_bytes e) others.1.1
            ∙ sym (entry_behind index second.before last.before first.before first.number second.number last.number
            first.is second.is last.is),
      ),
    )

-- each index of whole entries means a set
pub some_meaning : (texts index filter : List ℕ) (k : ℕ) → length index ≡ 24 * k
    → ((i : ℕ) → get_or index i 0 < 256) → (s : FactSet) × Means texts index filter s
some_meaning texts index filter k size small =
    let found = some_entries k index size small in
    let set = some_set texts found.0 in (
      fact_set (admitted_of filter set.0),
      (
        found.0,
        (
          found.1.0,
          found.1.1,
          λ q. (
            λ is. let a = (admitted_in filter set.0 q).0 is in (a.0, (set.1 q).0 a.1),
            λ has. (admitted_in filter set.0 q).1 (has.0, (set.1 q).1 has.1),
          ),
        ),
      ),
    )
