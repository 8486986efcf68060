-- One more key, and one more code, of a report.
use Rattle.std.proofs.Common.{◌≡◌, ◌∙◌, refl, sym, ap, subst, ℕ, ◌+◌, ◌<◌, ◌≤◌, Bool, true, false, arith}
use Rattle.std.proofs.Common.{List, [], ◌∷◌, ◌++◌, append_assoc, map, take, length, get_or, Option, Some, None, inl}
use Rattle.std.proofs.Common.{inr}
use Rattle.std.specs.Prelude.{IfSome, string_bytes}
use Rattle.std.specs.List.{filter}
use Rattle.std.proofs.lemmas.List.{take_all, take_more, map-append, append-nil, length-map, length-take-le}
use Rattle.std.proofs.lemmas.List.{get_or-take, get_or-map}
use Rattle.std.proofs.lemmas.List.Elements.{filter-append, All-nil, All-push, All-append, All-weaker}
use Rattle.std.proofs.Math.Bool.{cond}
use Rattle.exact_answers.specs.declared.fact_constraints.FactConstraints.{FactConstraints}
use Rattle.manifest_lints.specs.declared.earlier.Earlier.{Earlier}
use Rattle.manifest_lints_findings.specs.declared.codes.KeyLint.{KeyLint}
use Rattle.manifest_lints_findings.specs.declared.findings.Finding.{Finding}
use Rattle.manifest_lints_findings.specs.declared.known_keys.AnalysedKey.{AnalysedKey}
use Rattle.manifest_lints_findings.specs.declared.readings.ReadKey.{ReadKey}
use Rattle.manifest_lints_findings.specs.Codes.{CodeSet, finding_level}
use Rattle.manifest_lints_findings.specs.Marks.{Mark, mark}
use Rattle.manifest_lints_findings.specs.Messages.{Shows, noted_texts, help_texts, said}
use Rattle.manifest_lints_findings.specs.Pointed.{Names, PointsTo}
use Rattle.manifest_lints_findings.specs.Texts.{Mentions}
use Rattle.manifest_lints_findings.specs.Shown.{IsMended, IsShownOn}
use Rattle.manifest_lints_findings.specs.Spells.{entry_read}
use Rattle.manifests.specs.Declarations.{DeclaredEntry}
use Rattle.manifests.specs.Entries.{Entry}
use Rattle.manifest_lints.specs.Reports.{AreFindingsOn, on_more, IsFound, AreTold, NamesEarlier, AddsFindings}
use Rattle.manifest_lints.specs.Reports.{told_marks, left_open, IsKnownOf, IsDiagnosticOn, ShowsKey}
use Rattle.manifest_lints.specs.Sames.{named_place}
use Rattle.manifest_lints.proofs.MoreSames.{named_within}

-- the keys before a place, and the one at it
pub next_entries : (reads : List ReadKey) (i : ℕ) (d : ReadKey) → i < length reads
    → map entry_read (take i reads) ++ entry_read (get_or reads i d) ∷ [] ≡ map entry_read (take (i + 1) reads)
next_entries reads i d within =
    sym (map-append entry_read (take i reads) (get_or reads i d ∷ []))
    ∙ ap (map entry_read) (sym (take_more reads i d within))

-- a key that is named stands before
found_within : (k : FactConstraints) (ds : List DeclaredEntry) (es : List Entry) (ns : List ℕ) (e : Entry)
    (codes : CodeSet)
    (earlier : Earlier) (is_open : Bool) → IsFound k ds es ns e codes earlier is_open
    → IfSome (named_place earlier) (λ n. n < length es)
found_within k ds es ns e codes earlier is_open (inl spelled) =
    named_within k es spelled.condition earlier spelled.named
found_within k ds es ns e codes earlier is_open (inr unspelled) =
    subst (λ a. IfSome (named_place a) (λ n. n < length es)) (sym unspelled.unlike) tt

module _ (reads : List ReadKey) (i : ℕ) (d : ReadKey) (within : i < length reads) (other : List ℕ) where
  long : length (map entry_read (take i reads)) ≡ i
  long = length-map (take i reads) entry_read ∙ length-take-le i reads (omega arith)

  -- a key before a place stands at the same place among all keys
  before_is : (n : ℕ) (e : Entry) → n < length (map entry_read (take i reads))
      → get_or (map entry_read reads) n e ≡ get_or (map entry_read (take i reads)) n e
  before_is n e before =
      let long = length-take-le i reads (omega arith) in
      let mapped = length-map (take i reads) entry_read in
      get_or-map entry_read reads n d e (omega arith)
      ∙ ap entry_read (sym (get_or-take i reads n d (omega arith)))
      ∙ sym (get_or-map entry_read (take i reads) n d e (omega arith))

  names_by : (o : Option ℕ) (f : Finding) → IfSome o (λ n. n < length (map entry_read (take i reads)))
      → IfSome o (λ n. n < length reads → (e : Entry) → other ≡ (get_or (map entry_read reads) n e).0)
      → Names f.code other f
      → IfSome o (λ n. (e : Entry)
      → Names f.code (get_or (map entry_read (take i reads)) n e).0 f)
  names_by (Some n) f before is names = λ e.
      let at : n < i = subst (λ m. n < m) long before in
      subst (λ t. Names f.code t f)
      (is (omega arith) e ∙ ap (λ (x : Entry). x.0) (before_is n e before)) names
  names_by None f before is names = tt

  pub one_more : (k : FactConstraints) (ds : List DeclaredEntry) (key : AnalysedKey) (codes : CodeSet)
      (earlier : Earlier)
      (is_open : Bool)
      (old new : List Finding) (before_open now_open : List ℕ)
      → AreFindingsOn k ds (map entry_read (take i reads)) old before_open
      → IsFound k ds (map entry_read (take i reads)) before_open (entry_read (get_or reads i d)) codes earlier is_open
      → IfSome (named_place earlier)
      (λ n. n < length reads → (e : Entry) → other ≡ (get_or (map entry_read reads) n e).0)
      → IsKnownOf ds (entry_read (get_or reads i d)) key
      → AddsFindings (told_marks i codes) other key old new → now_open ≡ before_open ++ left_open i is_open
      → AreFindingsOn k ds (map entry_read (take (i + 1) reads)) new now_open
  one_more k ds key codes earlier is_open old new before_open now_open before found other_is known adds opened =
      let x = get_or reads i d in
      let es = map entry_read (take i reads) in
      let told : AreTold ds es (entry_read x) codes earlier adds.added = record {
        marks_are = adds.marks_are ∙ ap (λ n. told_marks n codes) (sym long);
        named = All-weaker (λ f. Names f.code other f) (NamesEarlier es earlier)
            (λ f names. names_by (named_place earlier) f (found_within k ds es before_open (entry_read x) codes
            earlier is_open found) other_is names) adds.added adds.named;
        key = key;
        known = known;
        shown = adds.shown;
      } in
      let more : AreFindingsOn k ds (es ++ entry_read x ∷ []) (old ++ adds.added)
      (before_open ++ left_open (length es) is_open) =
      on_more es (entry_read x) codes earlier is_open old adds.added before_open before found told in
      subst (λ fs. AreFindingsOn k ds fs new now_open) (next_entries reads i d within)
      (subst (λ fs. AreFindingsOn k ds (es ++ entry_read x ∷ []) fs now_open) (sym adds.are)
      (subst (λ ns. AreFindingsOn k ds (es ++ entry_read x ∷ []) (old ++ adds.added) ns)
      (ap (λ n. before_open ++ left_open n is_open) long ∙ sym opened) more))

abbrev marked : ℕ → List KeyLint → List Mark
marked n cs = map (λ c. (Some n, c)) cs

-- ---- what adds findings

pub adds_none : (other : List ℕ) (key : AnalysedKey) (fs : List Finding) → AddsFindings [] other key fs fs
adds_none other key fs = record {
  added = [];
  are = sym (append-nil fs);
  marks_are = refl;
  named = All-nil (λ f. Names f.code other f);
  shown = All-nil (ShowsKey key);
}

adds_more : (ms ns : List Mark) (other : List ℕ) (key : AnalysedKey) (fs gs hs : List Finding)
    → AddsFindings ms other key fs gs → AddsFindings ns other key gs hs → AddsFindings (ms ++ ns) other key fs hs
adds_more ms ns other key fs gs hs a b = record {
  added = a.added ++ b.added;
  are = b.are ∙ ap (λ zs. zs ++ b.added) a.are ∙ append_assoc fs a.added b.added;
  marks_are = map-append mark a.added b.added ∙ (λ j. a.marks_are j ++ b.marks_are j);
  named = All-append (λ f. Names f.code other f) a.added b.added a.named b.named;
  shown = All-append (ShowsKey key) a.added b.added a.shown b.shown;
}

module _ (p : KeyLint → Bool) (n : ℕ) (cs : List KeyLint) (i : ℕ) (d : KeyLint) (within : i < length cs) where
  at_next : (xs : List KeyLint) → filter p (get_or cs i d ∷ []) ≡ xs
      → marked n (filter p (take i cs)) ++ marked n xs ≡ marked n (filter p (take (i + 1) cs))
  at_next xs is =
      sym (map-append (λ c. (Some n, c)) (filter p (take i cs)) xs)
      ∙ ap (λ ys. marked n (filter p (take i cs) ++ ys)) (sym is)
      ∙ ap (marked n)
      (sym (filter-append p (take i cs) (get_or cs i d ∷ [])) ∙ ap (filter p) (sym (take_more cs i d within)))

  next_code : marked n (filter p (take i cs)) ++ cond (p (get_or cs i d)) ((Some n, get_or cs i d) ∷ []) []
      ≡ marked n (filter p (take (i + 1) cs))
  next_code =
      let x = get_or cs i d in
      elim (p x)
      as (λ b. p x ≡ b → marked n (filter p (take i cs)) ++ cond b ((Some n, x) ∷ []) []
      ≡ marked n (filter p (take (i + 1) cs))) [
        | true ↦ λ e. at_next (x ∷ []) (ap (λ b. cond b (x ∷ []) []) e)
        | false ↦ λ e. at_next [] (ap (λ b. cond b (x ∷ []) []) e)
      ] refl

  pub one_code : (other : List ℕ) (key : AnalysedKey) (init old new : List Finding)
      → AddsFindings (marked n (filter p (take i cs))) other key init old
      → AddsFindings (cond (p (get_or cs i d)) ((Some n, get_or cs i d) ∷ []) []) other key old new
      → AddsFindings (marked n (filter p (take (i + 1) cs))) other key init new
  one_code other key init old new before now =
      subst (λ ms. AddsFindings ms other key init new) next_code
      (adds_more (marked n (filter p (take i cs))) (cond (p (get_or cs i d)) ((Some n, get_or cs i d) ∷ []) []) other
      key init old new before now)

-- all codes were gone through
pub all_codes : (p : KeyLint → Bool) (n i : ℕ) (cs : List KeyLint) (other : List ℕ) (key : AnalysedKey)
    (init new : List Finding)
    → length cs ≤ i → AddsFindings (marked n (filter p (take i cs))) other key init new
    → AddsFindings (marked n (filter p cs)) other key init new
all_codes p n i cs other key init new done =
    subst (λ xs. AddsFindings (marked n (filter p xs)) other key init new) (take_all i cs done)

pub one_told : (fs gs : List Finding) (f : Finding) (b : Bool) (m : Mark) (other : List ℕ) (key : AnalysedKey)
    → gs ≡ fs ++ f ∷ []
    → mark f ≡ m → b ≡ true → Names m.1 other f
    → f.level ≡ finding_level m.1 (length key.predicates.items)
    → Shows m.1 key (string_bytes f.message)
    → Mentions (noted_texts m.1 key) (said f.children.notes.items)
    → Mentions (help_texts m.1 key f.suggestion) (said f.children.helps.items)
    → IsShownOn m.1 key f
    → PointsTo m.1 key f.pointed
    → IfSome f.suggestion (λ s. IsMended m.1 (string_bytes s))
    → AddsFindings (cond b (m ∷ []) []) other key fs gs
one_told fs gs f b m other key pushed is told names level shows notes helps shown points mended = record {
  added = f ∷ [];
  are = pushed;
  marks_are = ap (λ y. y ∷ []) is ∙ sym (ap (λ c. cond c (m ∷ []) []) told);
  named = All-push (λ g. Names g.code other g) [] f
      (All-nil (λ g. Names g.code other g))
      (subst (λ c. Names c other f) (sym (ap (λ (x : Mark). x.1) is)) names);
  shown = All-push (ShowsKey key) [] f (All-nil (ShowsKey key))
      (subst (λ c. IsDiagnosticOn c key f) (sym (ap (λ (x : Mark). x.1) is))
      (record {
        level = level;
        message = shows;
        notes = notes;
        helps = helps;
        shown = shown;
        pointed = points;
        suggestion = mended;
      }));
}

pub none_told : (fs : List Finding) (b : Bool) (m : Mark) (other : List ℕ) (key : AnalysedKey) → b ≡ false
    → AddsFindings (cond b (m ∷ []) []) other key fs fs
none_told fs b m other key hidden =
    subst (λ ms. AddsFindings ms other key fs fs) (sym (ap (λ c. cond c (m ∷ []) []) hidden)) (adds_none other key fs)
