-- What is written for an entry of `check-cfg` declares it, and nothing else does.
use Rattle.std.proofs.Common.{◌≡◌, ◌∙◌, refl, sym, ap, subst, ℕ, ◌||◌, ◌&&◌, Bool, true, false, List, [], ◌∷◌, ◌++◌}
use Rattle.std.proofs.Common.{Option, Some, None, not}
use Rattle.std.specs.Prelude.{cond, codes, bytes_eq, option_map, option_and_then}
use Rattle.std.specs.List.{list_any}
use Rattle.std.proofs.lemmas.List.{append_assoc, append-nil}
use Rattle.std.proofs.lemmas.Slice.Eq.{bytes_eq-Decides}
use Rattle.cargo_platform.specs.Tokens.{Lexeme, LeftParen, RightParen, Ident, Comma, String}
use Rattle.manifests.specs.Declarations.{DeclaredEntry, DeclaredValues, AnyValue, Listed, HasTokens}
use Rattle.manifests.specs.Declarations.{declared_values, with_values, values_from, names_from, declaration}
use Rattle.manifests.specs.Declarations.{is_close, is_paren, is_no_name, is_cfg, is_left}
use Rattle.manifests.specs.Laws.{WrittenName, WrittenValue, Text, Any, NoValue, WrittenEntry}
use Rattle.manifests.specs.Laws.{Names, NamesAndValues, written_name, written_names, written_more}
use Rattle.manifests.specs.Laws.{written_values, maybe_comma, opened, written_entry, names_in, is_any}
use Rattle.manifests.specs.Laws.{is_none, texts_in, meant_values, meant_entry, IsWritten}
use Rattle.manifests.specs.Laws.{DeclareWhatIsWritten, DeclaresWhatIsWritten}

or_false : (a : Bool) → (a || false) ≡ a
or_false true = refl
or_false false = refl

or_true : (a : Bool) → (a || true) ≡ true
or_true true = refl
or_true false = refl

-- ---- what is written declares

-- the values, where what is left closes them
abbrev closed_by : List Lexeme → List (List ℕ) → (any none : Bool) → Option DeclaredValues
closed_by ls texts any none = cond (is_close ls) (Some (declared_values texts any none)) None

same : (ls : List Lexeme) (texts : List (List ℕ)) (any none : Bool)
    → closed_by ls texts any none ≡ closed_by ls (texts ++ []) (any || false) (none || false)
same ls texts any none =
    ap (λ ts. closed_by ls ts any none) (sym (append-nil texts))
    ∙ ap (λ b. closed_by ls (texts ++ []) b none) (sym (or_false any))
    ∙ ap (λ b. closed_by ls (texts ++ []) (any || false) b) (sym (or_false none))

after : (ends : Bool) (vs : List WrittenValue) (texts : List (List ℕ)) (any none : Bool) (ls : List Lexeme)
    → values_from false texts any none (written_more ends vs ++ RightParen ∷ ls)
    ≡ closed_by ls (texts ++ texts_in vs) (any || list_any is_any vs) (none || list_any is_none vs)
after true [] texts any none ls = same ls texts any none
after false [] texts any none ls = same ls texts any none
after ends (Text t ∷ vs) texts any none ls =
    after ends vs (texts ++ t ∷ []) any none ls
    ∙ ap (λ ts. closed_by ls ts (any || list_any is_any vs) (none || list_any is_none vs))
    (append_assoc texts (t ∷ []) (texts_in vs))
after ends (Any ∷ vs) texts any none ls =
    after ends vs texts true none ls
    ∙ ap (λ b. closed_by ls (texts ++ texts_in vs) b (none || list_any is_none vs)) (sym (or_true any))
after ends (NoValue ∷ vs) texts any none ls =
    after ends vs texts any true ls
    ∙ ap (λ b. closed_by ls (texts ++ texts_in vs) (any || list_any is_any vs) b) (sym (or_true none))

as_meant : (texts : List (List ℕ)) (any none : Bool)
    → declared_values texts any none ≡ cond any AnyValue (Listed texts none)
as_meant texts true none = refl
as_meant texts false none = refl

from_start : (ends : Bool) (vs : List WrittenValue) (ls : List Lexeme)
    → values_from true [] false false (written_values ends vs ++ RightParen ∷ ls)
    ≡ closed_by ls (texts_in vs) (list_any is_any vs) (list_any is_none vs)
from_start ends [] ls = refl
from_start ends (Text t ∷ vs) ls = after ends vs (t ∷ []) false false ls
from_start ends (Any ∷ vs) ls = after ends vs [] true false ls
from_start ends (NoValue ∷ vs) ls = after ends vs [] false true ls

closes : (behind : Bool) → is_close (maybe_comma behind ++ RightParen ∷ []) ≡ true
closes true = refl
closes false = refl

past_names : (names : List (List ℕ)) (ns : List WrittenName) (ls : List Lexeme)
    → names_from names (written_names ns ++ ls) ≡ names_from (names ++ names_in ns) ls
past_names names [] ls = ap (λ xs. names_from xs ls) (sym (append-nil names))
past_names names (n ∷ ns) ls =
    past_names (names ++ n.name ∷ []) ns ls
    ∙ ap (λ xs. names_from xs ls) (append_assoc names (n.name ∷ []) (names_in ns))

pub is_declared : (w : WrittenEntry) → declaration (written_entry w) ≡ Some (meant_entry w)
is_declared (Names before last) = past_names [] before (written_name last ∷ RightParen ∷ [])
is_declared (NamesAndValues first more values ends behind) =
    let names = names_in (first ∷ more) in
    let tail = maybe_comma behind ++ RightParen ∷ [] in
    let any = list_any is_any values in
    let none = list_any is_none values in
    past_names [] (first ∷ more) (opened (codes "values") ++ (written_values ends values ++ RightParen ∷ tail))
    ∙ ap (option_map (with_values names)) (from_start ends values tail
    ∙ ap (λ b. cond b (Some (declared_values (texts_in values) any none)) None) (closes behind)
    ∙ ap Some (as_meant (texts_in values) any none))

-- ---- what declares is written so

abbrev written_from : (comes ends : Bool) → List WrittenValue → List Lexeme
written_from true ends vs = written_values ends vs
written_from false ends vs = written_more ends vs

record Values (comes : Bool) (texts : List (List ℕ)) (any none : Bool) (ls : List Lexeme) (d : DeclaredValues)
    : Type 0 where
  ends : Bool
  values : List WrittenValue
  left : List Lexeme
  written : written_from comes ends values ++ RightParen ∷ left ≡ ls
  closed : is_close left ≡ true
  meant : declared_values (texts ++ texts_in values) (any || list_any is_any values) (none || list_any is_none values)
      ≡ d

cond_some : {A : Type 0} (b : Bool) (x y : A) → cond b (Some x) None ≡ Some y → (b ≡ true) × (x ≡ y)
cond_some true x y h = (refl, cc)
cond_some false x y h = absurd cc

ended : (texts : List (List ℕ)) (any none : Bool)
    → declared_values (texts ++ []) (any || false) (none || false) ≡ declared_values texts any none
ended texts any none =
    sym (ap (λ ts. declared_values ts any none) (sym (append-nil texts))
    ∙ ap (λ b. declared_values (texts ++ []) b none) (sym (or_false any))
    ∙ ap (λ b. declared_values (texts ++ []) (any || false) b) (sym (or_false none)))

module _ (texts : List (List ℕ)) (any none : Bool) (ls : List Lexeme) (d : DeclaredValues) where
  none_comes : closed_by ls texts any none ≡ Some d → Values true texts any none (RightParen ∷ ls) d
  none_comes h =
      let so = cond_some (is_close ls) (declared_values texts any none) d h in
      record {
        ends = false;
        values = [];
        left = ls;
        written = refl;
        closed = so.0;
        meant = ended texts any none ∙ so.1;
      }

  none_more : closed_by ls texts any none ≡ Some d → Values false texts any none (RightParen ∷ ls) d
  none_more h =
      let so = cond_some (is_close ls) (declared_values texts any none) d h in
      record {
        ends = false;
        values = [];
        left = ls;
        written = refl;
        closed = so.0;
        meant = ended texts any none ∙ so.1;
      }

  one_text : (t : List ℕ) → Values false (texts ++ t ∷ []) any none ls d → Values true texts any none (String t ∷ ls) d
  one_text t v = record {
    ends = v.ends;
    values = Text t ∷ v.values;
    left = v.left;
    written = ap (λ xs. String t ∷ xs) v.written;
    closed = v.closed;
    meant = ap (λ ts. declared_values ts (any || list_any is_any v.values) (none || list_any is_none v.values))
        (sym (append_assoc texts (t ∷ []) (texts_in v.values))) ∙ v.meant;
  }

  one_any : Values false texts true none ls d
      → Values true texts any none (Ident false (codes "any") ∷ LeftParen ∷ RightParen ∷ ls) d
  one_any v = record {
    ends = v.ends;
    values = Any ∷ v.values;
    left = v.left;
    written = ap (λ xs. Ident false (codes "any") ∷ LeftParen ∷ RightParen ∷ xs) v.written;
    closed = v.closed;
    meant = ap (λ b. declared_values (texts ++ texts_in v.values) b (none || list_any is_none v.values)) (or_true any)
        ∙ v.meant;
  }

  one_none : Values false texts any true ls d
      → Values true texts any none (Ident false (codes "none") ∷ LeftParen ∷ RightParen ∷ ls) d
  one_none v = record {
    ends = v.ends;
    values = NoValue ∷ v.values;
    left = v.left;
    written = ap (λ xs. Ident false (codes "none") ∷ LeftParen ∷ RightParen ∷ xs) v.written;
    closed = v.closed;
    meant = ap (λ b. declared_values (texts ++ texts_in v.values) (any || list_any is_any v.values) b) (or_true none)
        ∙ v.meant;
  }

  abbrev by_word : (is_any is_none : Bool) → Option DeclaredValues
  by_word is_any is_none =
      cond is_any (values_from false texts true none ls) (cond is_none (values_from false texts any true ls) None)

  one_word : (word : List ℕ) (a n : Bool) → bytes_eq word (codes "any") ≡ a → bytes_eq word (codes "none") ≡ n
      → (values_from false texts true none ls ≡ Some d → Values false texts true none ls d)
      → (values_from false texts any true ls ≡ Some d → Values false texts any true ls d)
      → by_word a n ≡ Some d → Values true texts any none (Ident false word ∷ LeftParen ∷ RightParen ∷ ls) d
  one_word word true n is isnt when_any when_none h =
      subst (λ w. Values true texts any none (Ident false w ∷ LeftParen ∷ RightParen ∷ ls) d)
      (sym ((bytes_eq-Decides word (codes "any")).0 is)) (one_any (when_any h))
  one_word word false true isnt is when_any when_none h =
      subst (λ w. Values true texts any none (Ident false w ∷ LeftParen ∷ RightParen ∷ ls) d)
      (sym ((bytes_eq-Decides word (codes "none")).0 is)) (one_none (when_none h))
  one_word word false false isnt is when_any when_none h = absurd cc

  with_comma : (ends : Bool) (vs : List WrittenValue) (left : List Lexeme)
      → written_values ends vs ++ RightParen ∷ left ≡ ls → is_close left ≡ true
      → declared_values (texts ++ texts_in vs) (any || list_any is_any vs) (none || list_any is_none vs) ≡ d
      → Values false texts any none (Comma ∷ ls) d
  with_comma ends [] left written closed meant = record {
    ends = true;
    values = [];
    left = left;
    written = ap (λ xs. Comma ∷ xs) written;
    closed = closed;
    meant = meant;
  }
  with_comma ends (v ∷ vs) left written closed meant = record {
    ends = ends;
    values = v ∷ vs;
    left = left;
    written = ap (λ xs. Comma ∷ xs) written;
    closed = closed;
    meant = meant;
  }

read : (comes : Bool) (texts : List (List ℕ)) (any none : Bool) (ls : List Lexeme) (d : DeclaredValues)
    → values_from comes texts any none ls ≡ Some d → Values comes texts any none ls d
read true texts any none (RightParen ∷ ls) d h = none_comes texts any none ls d h
read false texts any none (RightParen ∷ ls) d h = none_more texts any none ls d h
read false texts any none (Comma ∷ ls) d h =
    let v = read true texts any none ls d h in
    with_comma texts any none ls d v.ends v.values v.left v.written v.closed v.meant
read true texts any none (String t ∷ ls) d h =
    one_text texts any none ls d t (read false (texts ++ t ∷ []) any none ls d h)
read true texts any none (Ident false word ∷ LeftParen ∷ RightParen ∷ ls) d h =
    one_word texts any none ls d word _ _ refl refl (read false texts true none ls d) (read false texts any true ls d) h
read _ _ _ _ _ _ h = absurd cc

-- only the second parenthesis is left, maybe after a comma
is_end : (ls : List Lexeme) → is_paren ls ≡ true → RightParen ∷ [] ≡ ls
is_end (RightParen ∷ []) h = refl
is_end _ h = absurd cc

ends_so : (ls : List Lexeme) → is_close ls ≡ true → (behind : Bool) × (maybe_comma behind ++ RightParen ∷ [] ≡ ls)
ends_so (Comma ∷ ls) h = (true, ap (λ xs. Comma ∷ xs) (is_end ls h))
ends_so (RightParen ∷ ls) h = (false, is_end (RightParen ∷ ls) h)
ends_so _ h = absurd cc

-- what is read after names
data Read (names : List (List ℕ)) (ls : List Lexeme) (e : DeclaredEntry) : Type 0 where
  alone : (before : List WrittenName) (last : WrittenName)
      → written_names before ++ written_name last ∷ RightParen ∷ [] ≡ ls
      → with_values (names ++ (names_in before ++ last.name ∷ [])) (Listed [] true) ≡ e → Read names ls e
  valued : (before : List WrittenName) (values : List WrittenValue) (ends behind : Bool)
      → is_no_name (names ++ names_in before) ≡ false
      → written_names before ++ (opened (codes "values")
      ++ (written_values ends values ++ RightParen ∷ (maybe_comma behind ++ RightParen ∷ []))) ≡ ls
      → with_values (names ++ names_in before) (meant_values values) ≡ e → Read names ls e

one_more : (names : List (List ℕ)) (raw : Bool) (name : List ℕ) (ls : List Lexeme) (e : DeclaredEntry)
    → Read (names ++ name ∷ []) ls e → Read names (Ident raw name ∷ Comma ∷ ls) e
one_more names raw name ls e (alone before last written meant) =
    alone (record { raw = raw; name = name } ∷ before) last (ap (λ xs. Ident raw name ∷ Comma ∷ xs) written)
    (ap (λ xs. with_values xs (Listed [] true))
    (sym (append_assoc names (name ∷ []) (names_in before ++ last.name ∷ []))) ∙ meant)
one_more names raw name ls e (valued before values ends behind some written meant) =
    let same_names = append_assoc names (name ∷ []) (names_in before) in
    valued (record { raw = raw; name = name } ∷ before) values ends behind
    (ap is_no_name (sym same_names) ∙ some) (ap (λ xs. Ident raw name ∷ Comma ∷ xs) written)
    (ap (λ xs. with_values xs (meant_values values)) (sym same_names) ∙ meant)

and_true : (a b : Bool) → (a && b) ≡ true → (a ≡ true) × (b ≡ true)
and_true true b h = (refl, h)
and_true false b h = absurd cc

not_true : (a : Bool) → not a ≡ true → a ≡ false
not_true true h = absurd cc
not_true false h = refl

mapped : {A B : Type 0} (f : A → B) (o : Option A) (y : B) → option_map f o ≡ Some y
    → (x : A) × (o ≡ Some x) × (f x ≡ y)
mapped f (Some x) y h = (x, refl, cc)
mapped f None y h = absurd cc

when : {A : Type 0} (b : Bool) (o : Option A) (y : A) → cond b o None ≡ Some y → (b ≡ true) × (o ≡ Some y)
when true o y h = (refl, h)
when false o y h = absurd cc

its_values : (names : List (List ℕ)) (raw : Bool) (name : List ℕ) (ls : List Lexeme) (e : DeclaredEntry)
    → cond (not raw && bytes_eq name (codes "values") && not (is_no_name names))
    (option_map (with_values names) (values_from true [] false false ls)) None ≡ Some e
    → Read names (Ident raw name ∷ LeftParen ∷ ls) e
its_values names raw name ls e h =
    let tested = when _ _ e h in
    let tests = and_true (not raw && bytes_eq name (codes "values")) (not (is_no_name names)) tested.0 in
    let word = and_true (not raw) (bytes_eq name (codes "values")) tests.0 in
    let found = mapped (with_values names) (values_from true [] false false ls) e tested.1 in
    let v = read true [] false false ls found.0 found.1 in
    let end = ends_so v.left v.closed in
    valued [] v.values v.ends end.0 (ap is_no_name (append-nil names) ∙ not_true _ tests.1)
    ((λ j. Ident (sym (not_true raw word.0) j) (sym ((bytes_eq-Decides name (codes "values")).0 word.1) j)
    ∷ LeftParen ∷ (ap (λ xs. written_values v.ends v.values ++ RightParen ∷ xs) end.1 ∙ v.written) j))
    (ap (λ xs. with_values xs (meant_values v.values)) (append-nil names)
    ∙ ap (with_values names) (sym (as_meant (texts_in v.values) (list_any is_any v.values) (list_any is_none v.values))
    ∙ v.meant) ∙ found.2)

last_name : (names : List (List ℕ)) (raw : Bool) (name : List ℕ) (e : DeclaredEntry)
    → Some (with_values (names ++ name ∷ []) (Listed [] true)) ≡ Some e
    → Read names (Ident raw name ∷ RightParen ∷ []) e
last_name names raw name e h = alone [] (record { raw = raw; name = name }) refl cc

names_read : (names : List (List ℕ)) (ls : List Lexeme) (e : DeclaredEntry) → names_from names ls ≡ Some e
    → Read names ls e
names_read names (Ident raw name ∷ RightParen ∷ []) e h = last_name names raw name e h
names_read names (Ident raw name ∷ Comma ∷ ls) e h =
    one_more names raw name ls e (names_read (names ++ name ∷ []) ls e h)
names_read names (Ident raw name ∷ LeftParen ∷ ls) e h = its_values names raw name ls e h
names_read _ _ _ h = absurd cc

in_parens : (ls : List Lexeme) (e : DeclaredEntry) → Read [] ls e → IsWritten (opened (codes "cfg") ++ ls) e
in_parens ls e (alone before last written meant) =
    (Names before last, ap (λ xs. opened (codes "cfg") ++ xs) written, meant)
in_parens ls e (valued [] values ends behind some written meant) = absurd cc
in_parens ls e (valued (n ∷ ns) values ends behind some written meant) =
    (NamesAndValues n ns values ends behind, ap (λ xs. opened (codes "cfg") ++ xs) written, meant)

cfg_so : (l : Lexeme) → is_cfg l ≡ true → Ident false (codes "cfg") ≡ l
cfg_so (Ident true word) h = absurd cc
cfg_so (Ident false word) h = ap (Ident false) (sym ((bytes_eq-Decides word (codes "cfg")).0 h))
cfg_so _ h = absurd cc

left_so : (l : Lexeme) → is_left l ≡ true → LeftParen ≡ l
left_so LeftParen h = refl
left_so _ h = absurd cc

pub is_written : (ls : List Lexeme) (e : DeclaredEntry) → declaration ls ≡ Some e → IsWritten ls e
is_written [] e h = absurd cc
is_written (l ∷ []) e h = absurd cc
is_written (l ∷ m ∷ ls) e h =
    let tested = when (is_cfg l && is_left m) (names_from [] ls) e h in
    let tests = and_true (is_cfg l) (is_left m) tested.0 in
    subst (λ k. IsWritten (k ∷ m ∷ ls) e) (cfg_so l tests.0)
    (subst (λ k. IsWritten (Ident false (codes "cfg") ∷ k ∷ ls) e) (left_so m tests.1)
    (in_parens ls e (names_read [] ls e tested.1)))

pub tokens_declare : (ls : List Lexeme) (e : DeclaredEntry) → DeclareWhatIsWritten ls e
tokens_declare ls e = (is_written ls e, λ w. ap declaration (sym w.1) ∙ is_declared w.0 ∙ ap Some w.2)

cut_so : (text : List ℕ) (e : DeclaredEntry) (found : Option (List Lexeme)) → HasTokens text found
    → Some e ≡ option_and_then declaration found
    → (ls : List Lexeme) × HasTokens text (Some ls) × IsWritten ls e
cut_so text e (Some ls) cut h = (ls, cut, is_written ls e (sym h))
cut_so text e None cut h = absurd cc

pub text_declares : (text : List ℕ) (e : DeclaredEntry) → DeclaresWhatIsWritten text e
text_declares text e = (
  λ d. cut_so text e d.0 d.1 d.2,
  λ w. (Some w.0, w.1, sym ((tokens_declare w.0 e).1 w.2)),
)
