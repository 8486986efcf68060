-- Lines that are read as rows.
use Rattle.std.proofs.Common.{◌≡◌, ◌≢◌, ◌∙◌, ℕ, zero, suc, ◌+◌, ◌-◌, ◌<◌, ◌≤◌, List}
use Rattle.std.proofs.Common.{[], ◌∷◌, ◌++◌, refl, sym, ap, subst}
use Rattle.std.proofs.Common.{length, get_or, take, arith, append_assoc, append-nil, inl, inr, length-append}
use Rattle.std.proofs.Math.ListN.{get_or-append}
use Rattle.std.proofs.Math.Seq.{take-append-add, get_or-append_seam}
use Rattle.std.proofs.lemmas.List.{take-append-le, get_or-append-add}
use Rattle.std.specs.List.{AllByRecursion}
use Rattle.cargo_platform.specs.Trees.{CfgValue}
use Rattle.cargo_platform.specs.Spelling.{Values}
use Rattle.cargo_platform.specs.Faults.{IsRefusedAt}
use Rattle.cargo_platform.specs.Errors.{fault_in, span_in}
use Rattle.cargo_platform.specs.Lines.{line_at}
use Rattle.cargo_platform.specs.FactLines.{SpellFacts, SpellsNoFact}
use Rattle.cargo_platform.specs.declared.error.ParseError.{ParseError}
use Rattle.target_tables.specs.Rows.{Row, AreRows, AreEmpty, AreFilled, IsBlockEnd, HasNoRow, name_at}
use Rattle.target_tables.specs.Refusals.{IsRepeat, IsNoFact, IfLine}
use Rattle.target_tables.specs.declared.error.TableError.{TableError}
use Rattle.target_tables.specs.declared.error.TableError.TheVariants.{Line, Twice, Memory}
use Rattle.std.proofs.Common.{Result, Ok, Err, Option, Some, None, true, false}
use Rattle.std.specs.Prelude.{IfSome, IfNone, is_some}
use Rattle.std.specs.Result.{IsErrAnd}
use Rattle.target_tables.specs.Blocks.{IsBehindEmpty, IsBlock, IsNoFactBehind, AreRead}
use Rattle.target_tables.proofs.Fronts.{all_append}
use Rattle.target_tables.proofs.Places.{distinct_more}

all_take : {X : Type 0} (P : X → Type 0) (n : ℕ) (xs : List X) → AllByRecursion P xs → AllByRecursion P (take n xs)
all_take P zero [] a = tt
all_take P zero (x ∷ xs) a = tt
all_take P (suc n) [] a = tt
all_take P (suc n) (x ∷ xs) a = (a.0, all_take P n xs a.1)

all_at : {X : Type 0} (P : X → Type 0) (xs : List X) (k : ℕ) (d : X) → AllByRecursion P xs → k < length xs
    → P (get_or xs k d)
all_at P [] k d a below = absurd (omega (arith, below))
all_at P (x ∷ xs) zero d a below = a.0
all_at P (x ∷ xs) (suc k) d a below = all_at P xs k d a.1 (omega (arith, below))

pub as_many : (texts : List (List ℕ)) (facts : List CfgValue) → SpellFacts texts facts → length texts ≡ length facts
as_many [] [] h = refl
as_many [] (c ∷ cs) h = absurd h
as_many (t ∷ texts) [] h = absurd h
as_many (t ∷ texts) (c ∷ cs) h = ap suc (as_many texts cs h.1)

-- ---- blocks

-- empty lines before rows
behind_gap : (gap ys : List (List ℕ)) (rows : List Row) → AreEmpty gap → AreRows ys rows → AreRows (gap ++ ys) rows
behind_gap gap ys [] e h = all_append (λ l. l ≡ []) gap ys e h
behind_gap gap ys (row ∷ rows) e h = (
  h.0,
  record {
    gap = gap ++ h.1.gap;
    texts = h.1.texts;
    lines =
        ap (λ z. gap ++ z) h.1.lines ∙ sym (append_assoc gap h.1.gap ((row.name ∷ h.1.texts) ++ h.0));
    empty = all_append (λ l. l ≡ []) gap h.1.gap e h.1.empty;
    filled = h.1.filled;
    facts = h.1.facts;
    end = h.1.end;
  },
  h.2,
)

-- one row before others
one_block : (row : Row) (texts ys : List (List ℕ)) (rows : List Row) → row.name ≢ [] → AreFilled texts
    → SpellFacts texts row.facts → IsBlockEnd ys → AreRows ys rows → AreRows (row.name ∷ (texts ++ ys)) (row ∷ rows)
one_block row texts ys rows some filled spell end h = (
  ys,
  record {
    gap = [];
    texts = texts;
    lines = refl;
    empty = tt;
    filled = (some, filled);
    facts = spell;
    end = end;
  },
  h,
)

-- what ends a block before the rest ends it before what is in place of the rest
still_ends : (gap rest ys : List (List ℕ)) → AreEmpty gap → IsBlockEnd (gap ++ rest)
    → ((others : List (List ℕ)) → rest ≢ [] ∷ others) → (rest ≡ [] → ys ≡ []) → IsBlockEnd (gap ++ ys)
still_ends [] rest ys e (inl none) next at = inl (at none)
still_ends [] rest ys e (inr more) next at = absurd (next more.0 more.1)
still_ends (g ∷ gap) rest ys e end next at = inr (gap ++ ys, ap (λ z. z ∷ (gap ++ ys)) e.0)

-- ---- at the beginning and at the end

pub begun : (ls : List (List ℕ)) (passed : ℕ) (rest : List (List ℕ)) → IsBehindEmpty ls passed rest
    → AreRead ls [] passed rest
begun ls passed rest g = record {
  taken = g.gap;
  lines = g.lines;
  size = g.size;
  more = λ ys others at h. behind_gap g.gap ys others g.empty h;
  next = g.behind;
  distinct = λ j k before below. absurd (omega (arith, before, below));
}

-- the lines that are read
read_so_far : (ls : List (List ℕ)) (rows : List Row) (passed : ℕ) (rest : List (List ℕ))
    (r : AreRead ls rows passed rest)
    → AreRows r.taken rows
read_so_far ls rows passed rest r =
    subst (λ z. AreRows z rows) (append-nil r.taken)
    (subst (λ z. AreRows (r.taken ++ []) z) (append-nil rows) (r.more [] [] (λ none. refl) tt))

pub all_read : (ls : List (List ℕ)) (rows : List Row) (passed : ℕ) (rest : List (List ℕ)) → AreRead ls rows passed rest
    → rest ≡ [] → AreRows ls rows
all_read ls rows passed rest r none =
    subst (λ z. AreRows z rows) (sym (r.lines ∙ ap (λ z. r.taken ++ z) none ∙ append-nil r.taken))
    (read_so_far ls rows passed rest r)

-- ---- one more row

named : (rest behind : List (List ℕ)) (name : List ℕ) → ((others : List (List ℕ)) → rest ≢ [] ∷ others)
    → rest ≡ name ∷ behind → name ≢ []
named rest behind name next is none = next behind (is ∙ ap (λ z. z ∷ behind) none)

seam : (taken texts gap ys : List (List ℕ)) (name : List ℕ)
    → taken ++ (name ∷ (texts ++ (gap ++ ys))) ≡ (taken ++ (name ∷ (texts ++ gap))) ++ ys
seam taken texts gap ys name =
    ap (λ z. taken ++ (name ∷ z)) (sym (append_assoc texts gap ys))
    ∙ sym (append_assoc taken (name ∷ (texts ++ gap)) ys)

pub grown : (ls : List (List ℕ)) (rows : List Row) (passed : ℕ) (rest : List (List ℕ)) (row : Row)
    (behind after : List (List ℕ)) (empty : ℕ) (next : List (List ℕ)) (n : ℕ) → AreRead ls rows passed rest
    → rest ≡ row.name ∷ behind → IsBlock behind row.facts after → IsBehindEmpty after empty next
    → HasNoRow rows row.name → n ≡ passed + 1 + length row.facts + empty → AreRead ls (rows ++ row ∷ []) n next
grown ls rows passed rest row behind after empty next n r is b g none count =
    let name = row.name in
    let some : row.name ≢ [] = named rest behind row.name r.next is in
    let end : IsBlockEnd (g.gap ++ next) = subst (λ z. IsBlockEnd z) g.lines b.end in
    let left : rest ≡ name ∷ (b.texts ++ (g.gap ++ next)) =
    is ∙ ap (λ z. name ∷ z) (b.lines ∙ ap (λ z. b.texts ++ z) g.lines) in
    record {
      taken = r.taken ++ (name ∷ (b.texts ++ g.gap));
      lines = r.lines ∙ ap (λ z. r.taken ++ z) left ∙ seam r.taken b.texts g.gap next name;
      size =
          omega (
            arith,
            length-append r.taken (name ∷ (b.texts ++ g.gap)),
            length-append b.texts g.gap,
            as_many b.texts row.facts b.spell,
            r.size,
            g.size,
            count,
          );
      more =
          λ ys others at h.
          subst (λ z. AreRows z ((rows ++ row ∷ []) ++ others)) (seam r.taken b.texts g.gap ys name)
          (subst (λ z. AreRows (r.taken ++ (name ∷ (b.texts ++ (g.gap ++ ys)))) z)
          (sym (append_assoc rows (row ∷ []) others))
          (r.more (name ∷ (b.texts ++ (g.gap ++ ys))) (row ∷ others) (λ empty. absurd (let e = sym is ∙ empty in cc))
          (one_block row b.texts (g.gap ++ ys) others some b.filled b.spell
          (still_ends g.gap next ys g.empty end g.behind at) (behind_gap g.gap ys others g.empty h))));
      next = g.behind;
      distinct = distinct_more rows row r.distinct none;
    }

-- ---- refusals

pub repeated : (ls : List (List ℕ)) (rows : List Row) (passed : ℕ) (rest : List (List ℕ)) (name : List ℕ)
    (behind : List (List ℕ)) (k n : ℕ) → AreRead ls rows passed rest → rest ≡ name ∷ behind → k < length rows
    → name_at rows k ≡ name → n ≡ passed + 1 → IsRepeat ls n
repeated ls rows passed rest name behind k n r is below same count =
    let row : Row = record { name = name; facts = [] } in
    let some : name ≢ [] = named rest behind name r.next is in
    let lines : ls ≡ r.taken ++ (name ∷ behind) = r.lines ∙ ap (λ z. r.taken ++ z) is in
    let at : n ≡ length r.taken + 1 = omega (arith, r.size, count) in
    let before : n - 1 ≡ length r.taken = omega (arith, at) in
    let front : take n ls ≡ r.taken ++ name ∷ [] =
    (λ i. take (at i) (lines i)) ∙ take-append-add r.taken (name ∷ behind) 1 in
    let here : line_at ls n ≡ name =
    (λ i. get_or (lines i) (before i) []) ∙ get_or-append_seam r.taken name behind [] in
    record {
      rows = rows;
      row = row;
      numbered = (
        omega (arith, at),
        omega (arith, at, ap length lines, length-append r.taken (name ∷ behind)),
      );
      read =
          subst (λ z. AreRows z (rows ++ row ∷ [])) (sym front)
          (r.more (name ∷ []) (row ∷ []) (λ empty. absurd (let e = sym is ∙ empty in cc))
          (one_block row [] [] [] some tt tt (inl refl) tt));
      distinct = r.distinct;
      again = (k, below, same);
      here = (λ e. some (sym here ∙ e), refl);
    }

pub refused : (ls : List (List ℕ)) (rows : List Row) (passed : ℕ) (rest : List (List ℕ)) (name : List ℕ)
    (behind : List (List ℕ)) (before n : ℕ) (e : ParseError) → AreRead ls rows passed rest → rest ≡ name ∷ behind
    → HasNoRow rows name → before ≡ passed + 1 → IsNoFactBehind behind before n e → IsNoFact ls n e
refused ls rows passed rest name behind before n e r is none count f =
    let m = f.error.at - 1 in
    let facts = f.error.first.before.0 in
    let row : Row = record { name = name; facts = facts } in
    let some : name ≢ [] = named rest behind name r.next is in
    let at : f.error.at ≡ suc m = omega (arith, f.error.first.numbered.0) in
    let inside : suc m ≤ length f.texts = omega (arith, at, f.error.first.numbered.1) in
    let lines : ls ≡ r.taken ++ ((name ∷ f.texts) ++ f.rest) =
    r.lines ∙ ap (λ z. r.taken ++ z) (is ∙ ap (λ z. name ∷ z) f.lines) in
    let place : n - 1 ≡ length r.taken + suc m = omega (arith, f.error.number, count, r.size, at) in
    let front : take (n - 1) ls ≡ r.taken ++ (name ∷ (take m f.texts ++ [])) =
    (λ i. take (place i) (lines i)) ∙ take-append-add r.taken ((name ∷ f.texts) ++ f.rest) (suc m)
    ∙ ap (λ z. r.taken ++ (name ∷ z))
    (take-append-le m f.texts f.rest (omega (arith, inside)) ∙ sym (append-nil (take m f.texts))) in
    let here : line_at ls n ≡ get_or (name ∷ f.texts) (suc m) [] =
    (λ i. get_or (lines i) (place i) []) ∙ get_or-append-add r.taken ((name ∷ f.texts) ++ f.rest) (suc m) []
    ∙ get_or-append (name ∷ f.texts) f.rest [] (suc m) (omega (arith, inside)) in
    let earlier : n - 1 - 1 ≡ length r.taken + m = omega (arith, place) in
    let there : line_at ls (n - 1) ≡ get_or (name ∷ f.texts) m [] =
    (λ i. get_or (lines i) (earlier i) []) ∙ get_or-append-add r.taken ((name ∷ f.texts) ++ f.rest) m []
    ∙ get_or-append (name ∷ f.texts) f.rest [] m (omega (arith, inside)) in
    let same : line_at f.texts f.error.at ≡ line_at ls n = sym here in
    let each : AreFilled (name ∷ f.texts) = (some, f.filled) in
    record {
      rows = rows ++ row ∷ [];
      numbered = (
        omega (arith, place),
        omega (
          arith,
          place,
          inside,
          ap length lines,
          length-append r.taken ((name ∷ f.texts) ++ f.rest),
          length-append (name ∷ f.texts) f.rest,
        ),
      );
      read =
          subst (λ z. AreRows z (rows ++ row ∷ [])) (sym front)
          (r.more (name ∷ (take m f.texts ++ [])) (row ∷ []) (λ empty. absurd (let e = sym is ∙ empty in cc))
          (one_block row (take m f.texts) [] [] some (all_take (λ l. l ≢ []) m f.texts f.filled)
          f.error.first.before.1 (inl refl) tt));
      distinct = distinct_more rows row r.distinct none;
      inside = (
        λ e. all_at (λ l. l ≢ []) (name ∷ f.texts) m [] each (omega (arith, inside)) (sym there ∙ e),
        λ e. all_at (λ l. l ≢ []) (name ∷ f.texts) (suc m) [] each (omega (arith, inside)) (sym here ∙ e),
      );
      here = subst (λ t. SpellsNoFact t) same f.error.first.here;
      orig = f.error.orig ∙ same;
      fault = subst (λ t. IsRefusedAt Values t (fault_in e) (span_in e)) same f.error.fault;
    }

-- ---- what is passed on

at_line : (A B : Type 0) (P Q : ℕ → ParseError → Type 0) (r : TableError)
    → ((n : ℕ) (e : ParseError) → P n e → Q n e) → IfLine {A = A} (Err r) P → IfLine {A = B} (Err r) Q
at_line A B P Q (Line n e) f h = f n e h
at_line A B P Q (Twice n) f h = tt
at_line A B P Q (Memory e) f h = tt

-- a statement about the line of an error that is passed on
pub passed_on : (A B : Type 0) (P Q : ℕ → ParseError → Type 0) (r : TableError) (answer : Result B TableError)
    → IsErrAnd answer (λ x. x ≡ r) → ((n : ℕ) (e : ParseError) → P n e → Q n e) → IfLine {A = A} (Err r) P
    → IfLine answer Q
passed_on A B P Q r (Ok b) is f h = absurd is
passed_on A B P Q r (Err e) is f h = subst (λ x. IfLine {A = B} (Err x) Q) (sym is) (at_line A B P Q r f h)

-- ---- what is found

pub found_at : (r : Option ℕ) (P Q : ℕ → Type 0) → is_some r ≡ true → IfSome r P → IfSome r Q
    → (k : ℕ) × P k × Q k
found_at None P Q e p q = absurd (cc)
found_at (Some k) P Q e p q = (k, p, q)

pub none_at : (r : Option ℕ) (P : Type 0) → is_some r ≡ false → IfNone r P → P
none_at None P e p = p
none_at (Some k) P e p = absurd (cc)
