-- The first error of what packages declare.
use Rattle.std.proofs.Common.{◌≡◌, ℕ, ◌+◌, ◌<◌, ◌≤◌, ◌&&◌, List, [], ◌∷◌, ◌++◌, map, drop, length, get_or, sym, ◌∙◌}
use Rattle.std.proofs.Common.{ap, append_assoc, Bool, true, false, codes, Option, Some}
use Rattle.std.specs.Prelude.{All}
use Rattle.std.specs.Option.{is_some}
use Rattle.std.proofs.lemmas.List.{drop_more, drop_all}
use Rattle.std.proofs.lemmas.List.Elements.{All-nil, All-cons, All-append}
use Rattle.serde_json.specs.Data.{Data, Items}
use Rattle.serde_json.specs.Find.{as_str, as_array}
use Rattle.serde_json.specs.View.{view, items_of}
use Rattle.serde_json.specs.declared.value.Value.{Value}
use Rattle.cargo_metadata.specs.Fields.{Field, Fits, IsFirstWrong, are_texts, is_texts, text_at, flag_at}
use Rattle.cargo_metadata.specs.Nodes.{kind_at, condition_at}
use Rattle.cargo_metadata.specs.declared.nodes.Kind.{Kind}
use Rattle.cargo_metadata.specs.declared.refusals.ExpectedValue.TheVariants as expected
use Rattle.cargo_metadata.specs.declared.refusals.FieldError.{FieldError}
use Rattle.cargo_metadata.proofs.Elements.{elements_of}
use Rattle.declared_features.specs.Refusals.{fields_of_subject, fields_of_flags}

-- ---- fields before and after

-- the first error of fields that come after others, which are as expected
pub after_fit : (before fields : List Field) (d : Data) (wrong : FieldError) → All (Fits d) before
    → IsFirstWrong fields d wrong → IsFirstWrong (before ++ fields) d wrong
after_fit before fields d wrong fit first = record {
  before = before ++ first.before;
  after = first.after;
  order = ap (λ (l : List Field). before ++ l) first.order
      ∙ sym (append_assoc before first.before ((wrong.field.now, wrong.expected) ∷ first.after));
  fit = All-append (Fits d) before first.before fit first.fit;
  misfits = first.misfits;
}

-- and of fields before others
pub before_more : (fields more : List Field) (d : Data) (wrong : FieldError) → IsFirstWrong fields d wrong
    → IsFirstWrong (fields ++ more) d wrong
before_more fields more d wrong first = record {
  before = first.before;
  after = first.after ++ more;
  order = ap (λ (l : List Field). l ++ more) first.order
      ∙ append_assoc first.before ((wrong.field.now, wrong.expected) ∷ first.after) more;
  fit = first.fit;
  misfits = first.misfits;
}

pub subject_fits : (d : Data) (name : List ℕ) (kind : Kind) (condition : Option (List ℕ))
    → text_at (codes "name") d ≡ Some name → kind_at d ≡ Some kind → condition_at d ≡ Some condition
    → All (Fits d) fields_of_subject
subject_fits d name kind condition named of_kind under =
    All-cons (Fits d) (codes "name", expected.Text)
    ((codes "kind", expected.Kind) ∷ (codes "target", expected.Condition) ∷ [])
    (ap (λ (o : Option (List ℕ)). is_some o) named)
    (All-cons (Fits d) (codes "kind", expected.Kind) ((codes "target", expected.Condition) ∷ [])
    (ap (λ (o : Option Kind). is_some o) of_kind)
    (All-cons (Fits d) (codes "target", expected.Condition) []
    (ap (λ (o : Option (Option (List ℕ))). is_some o) under) (All-nil (Fits d))))

pub flags_fit : (d : Data) (optional default : Bool) → flag_at (codes "optional") d ≡ Some optional
    → flag_at (codes "uses_default_features") d ≡ Some default → All (Fits d) fields_of_flags
flags_fit d optional default first second =
    All-cons (Fits d) (codes "optional", expected.Flag) ((codes "uses_default_features", expected.Flag) ∷ [])
    (ap (λ (o : Option Bool). is_some o) first)
    (All-cons (Fits d) (codes "uses_default_features", expected.Flag) []
    (ap (λ (o : Option Bool). is_some o) second) (All-nil (Fits d)))

-- ---- lists of texts

pub texts_of : (d : Data) (items : List Value) → Some (items_of (map view items)) ≡ as_array d
    → is_texts (as_array d) ≡ are_texts (map view items)
texts_of d items is =
    ap (λ (o : Option Items). is_texts o) (sym is)
    ∙ ap (λ (ds : List Data). are_texts ds) (elements_of (map view items))

texts_next : (items : List Value) (i : ℕ) (v : Value) → i < length items → v ≡ get_or items i v
    → are_texts (map view (drop i items)) ≡ (is_some (as_str (view v)) && are_texts (map view (drop (i + 1) items)))
texts_next items i v below is =
    ap (λ (vs : List Value). are_texts (map view vs)) (drop_more items i v below)
    ∙ ap (λ (w : Value). is_some (as_str (view w)) && are_texts (map view (drop (i + 1) items))) (sym is)

-- one text more
pub text_more : (items : List Value) (i : ℕ) (v : Value) (whole : Bool) → i < length items → v ≡ get_or items i v
    → is_some (as_str (view v)) ≡ true → are_texts (map view (drop i items)) ≡ whole
    → are_texts (map view (drop (i + 1) items)) ≡ whole
text_more items i v whole below is text before =
    sym (texts_next items i v below is
    ∙ ap (λ (b : Bool). b && are_texts (map view (drop (i + 1) items))) text) ∙ before

-- and one that is no text
pub text_lacks : (items : List Value) (i : ℕ) (v : Value) (whole : Bool) → i < length items → v ≡ get_or items i v
    → is_some (as_str (view v)) ≡ false → are_texts (map view (drop i items)) ≡ whole → false ≡ whole
text_lacks items i v whole below is text before =
    sym (texts_next items i v below is
    ∙ ap (λ (b : Bool). b && are_texts (map view (drop (i + 1) items))) text) ∙ before

pub texts_end : (items : List Value) (i : ℕ) (whole : Bool) → length items ≤ i
    → are_texts (map view (drop i items)) ≡ whole → true ≡ whole
texts_end items i whole past before =
    sym (ap (λ (vs : List Value). are_texts (map view vs)) (drop_all i items past)) ∙ before
