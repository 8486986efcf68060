-- The entries of facts are appended one by one, and stand for their set.
use Rattle.std.proofs.Common.{◌≡◌, sym, ap, ◌∙◌, subst, ℕ, List, [], ◌∷◌, ◌++◌, length, map, append_assoc}
use Rattle.std.proofs.Common.{arith, ◌+◌, ◌<◌, ◌≤◌, ◌^◌, Option, Some, None, w64, set, get_or, drop}
use Rattle.std.proofs.Common.{get_or-set_same, length-set}
use Rattle.std.specs.Prelude.{◌↔◌, IsTrue}
use Rattle.std.specs.Int.{to_le_bytes}
use Rattle.std.specs.FinSet.{contains}
use Rattle.std.proofs.Math.Seq.{drop-append_seam}
use Rattle.std.proofs.lemmas.List.{length-append}
use Rattle.cargo_platform.specs.declared.cfg.Cfg.{Cfg}
use Rattle.cargo_platform.specs.Trees.{value_of}
use Rattle.cargo_platform.specs.Facts.{Pair, pair_of, fact_set}
use Rattle.byte_answers.specs.declared.prepared.TheConstants.{FORMAT}
use Rattle.byte_answers.specs.Prepared.{Entry, entry_bytes, IsEntry, AreEntries, index_of, fact_texts, value_mark}
use Rattle.byte_answers.specs.Prepared.{value_text, HasFactOf, StandFor, Admits, hash}
use Rattle.byte_answers.proofs.PreparedSets.{AreOf, appended, stay, same_set_of}
use Rattle.byte_answers.proofs.PreparedSets.{AreAdmitted, admitted_fact, stay_admitted}
use Rattle.byte_answers.proofs.Openings.{with_last, hash_small}

mark_fits : (u : Option (List ℕ)) → value_mark u ≤ length (value_text u) + 1
mark_fits None = omega arith
mark_fits (Some v) = omega arith

-- the index has the entries of the facts that are not left, and the filter admits these
abbrev pub IsUpTo : List Cfg → List Cfg → List ℕ → List ℕ → List ℕ → Type 0
IsUpTo facts left texts index filter =
    (done : List Cfg) × ((es : List Entry) × ((facts ≡ left ++ done) × AreEntries es
    × (index_of es ≡ index) × AreOf texts es (map value_of done) × (length filter ≡ 256)
    × AreAdmitted filter (map value_of done)))

abbrev pub new_entry : List ℕ → Pair → Entry
new_entry texts q = record { start = length texts; name_size = length q.name; mark = value_mark q.value }

new_fits : (texts new : List ℕ) (q : Pair) → new ≡ texts ++ fact_texts q → length new + 1 < 2 ^ 64
    → IsEntry (new_entry texts q)
new_fits texts new q is small =
    let whole : length new ≡ length texts + (length q.name + length (value_text q.value)) =
    omega (arith, ap length is, length-append texts (fact_texts q), length-append q.name (value_text q.value)) in
    let mark = mark_fits q.value in
    (omega (arith, whole, small), omega (arith, whole, small), omega (arith, whole, small, mark))

-- the filter admits one more fact
admits_more : (filter own more texts : List ℕ) → length filter ≡ 256 → own ≡ texts
    → more ≡ set filter (hash own) 1 → Admits more texts
admits_more filter own more texts long same put =
    ap (λ (z : List ℕ). get_or more (hash z) 0) (sym same)
    ∙ ap (λ (z : List ℕ). get_or z (hash own) 0) put
    ∙ get_or-set_same filter (hash own) 1 0 (omega (arith, long, hash_small own))

pub one_appended : (facts left others : List Cfg) (fact : Cfg) (texts index filter new more own next : List ℕ)
    → IsUpTo facts left texts index filter → left ≡ others ++ fact ∷ []
    → new ≡ texts ++ fact_texts (pair_of (value_of fact))
    → more ≡ index ++ entry_bytes (new_entry texts (pair_of (value_of fact))) → length new + 1 < 2 ^ 64
    → (start : ℕ) → start ≡ length texts → own ≡ drop start new → next ≡ set filter (hash own) 1
    → IsUpTo facts others new more next
one_appended facts left others fact texts index filter new more own next
    (done, (es, (split, entries, is, are, long, admitted))) last added put small start place part marked =
    let q : Pair = pair_of (value_of fact) in
    let same : own ≡ fact_texts q =
    part ∙ (λ i. drop (place i) (added i)) ∙ drop-append_seam texts (fact_texts q) in (
      fact ∷ done,
      (
        new_entry texts q ∷ es,
        (
          split ∙ ap (λ (z : List Cfg). z ++ done) last ∙ append_assoc others (fact ∷ []) done,
          (new_fits texts new q added small, entries),
          ap (λ (z : List ℕ). z ++ entry_bytes (new_entry texts q)) is ∙ sym put,
          (
            appended texts new q added,
            subst (λ (z : List ℕ). AreOf z es (map value_of done)) (sym added)
                (stay texts (fact_texts q) es (map value_of done) are),
          ),
          ap length marked ∙ length-set filter (hash own) 1 ∙ long,
          (
            admits_more filter own next (fact_texts q) long same marked,
            subst (λ (z : List ℕ). AreAdmitted z (map value_of done)) (sym marked)
                (stay_admitted filter (hash own) (map value_of done) (omega (arith, long, hash_small own)) admitted),
          ),
        ),
      ),
    )

-- the facts of the entries are those that the filter admits too
abbrev IsSet : List ℕ → List ℕ → List Entry → List Cfg → Type 0
IsSet texts filter es facts =
    (q : Pair) → IsTrue (contains (fact_set (map value_of facts)) q)
    ↔ (Admits filter (fact_texts q) × HasFactOf texts es q)

all_admitted : (texts filter : List ℕ) (es : List Entry) (done : List Cfg) → AreOf texts es (map value_of done)
    → AreAdmitted filter (map value_of done) → IsSet texts filter es done
all_admitted texts filter es done are admitted =
    let same = same_set_of texts es (map value_of done) are in
    λ q. (
      λ is. let has = (same q).0 is in (admitted_fact texts filter es (map value_of done) q are admitted has, has),
      λ both. (same q).1 both.1,
    )

pub all_appended : (facts left : List Cfg) (texts index filter zero one two three : List ℕ) (size : ℕ)
    → IsUpTo facts left texts index filter → left ≡ [] → size ≡ length texts → zero ≡ texts ++ index
    → one ≡ zero ++ filter → two ≡ one ++ to_le_bytes w64 size
    → three ≡ two ++ to_le_bytes w64 FORMAT → StandFor three (fact_set (map value_of facts))
all_appended facts left texts index filter zero one two three n
    (done, (es, (split, entries, is, are, whole, admitted))) none long first second next last =
    let all : facts ≡ done = split ∙ ap (λ (z : List Cfg). z ++ done) none in
    let same = all_admitted texts filter es done are admitted in (
      texts,
      index,
      filter,
      (
        whole,
        with_last texts (index ++ filter) one two three
            (second ∙ ap (λ (z : List ℕ). z ++ filter) first ∙ append_assoc texts index filter)
            (next ∙ ap (λ (n : ℕ). one ++ to_le_bytes w64 n) long) last,
        (
          es,
          (
            entries,
            is,
            subst (λ (z : List Cfg). IsSet texts filter es z) (sym all) same,
          ),
        ),
      ),
    )
