-- The elements of a list of data are its data, and the first error in them.
use Rattle.std.proofs.Common.{◌≡◌, ℕ, ◌<◌, ◌≤◌, ◌+◌, List, [], ◌∷◌, ◌++◌, map, take, length, get_or, refl, sym, ◌∙◌}
use Rattle.std.proofs.Common.{ap, subst, arith, Option, Some, None, true}
use Rattle.std.specs.Prelude.{All, option_map, option_and_then}
use Rattle.std.specs.Option.{is_some}
use Rattle.std.proofs.lemmas.List.{take_more, take_all, map-append, get_or-map, length-map, take-map}
use Rattle.std.proofs.lemmas.List.Elements.{All-nil, All-cons}
use Rattle.serde_json.specs.Data.{Data, null}
use Rattle.serde_json.specs.Find.{get, as_array}
use Rattle.serde_json.specs.View.{view, items_of}
use Rattle.serde_json.specs.declared.value.Value.{Value}
use Rattle.cargo_metadata.specs.Rows.{AreRows, of_none, of_more, IsFirstAt}
use Rattle.cargo_metadata.specs.Fields.{elements, text_at, list_at, Field, Fits, IsWrong, IsAt, IsFirstWrong}
use Rattle.cargo_metadata.specs.declared.refusals.ExpectedValue.{ExpectedValue}
use Rattle.cargo_metadata.specs.declared.refusals.ExpectedValue.TheVariants as expected
use Rattle.cargo_metadata.specs.declared.refusals.FieldError.{FieldError}

pub elements_of : (ds : List Data) → elements (items_of ds) ≡ ds
elements_of [] = refl
elements_of (d ∷ ds) = ap (λ (es : List Data). d ∷ es) (elements_of ds)

-- ---- rows of the first elements

more_seen : (items : List Value) (i : ℕ) (v : Value) → i < length items → v ≡ get_or items i v
    → map view (take (i + 1) items) ≡ map view (take i items) ++ view v ∷ []
more_seen items i v below is =
    ap (λ (vs : List Value). map view vs) (take_more items i v below)
    ∙ map-append view (take i items) (get_or items i v ∷ [])
    ∙ ap (λ (w : Value). map view (take i items) ++ view w ∷ []) (sym is)

pub rows_more : {X : Type 0} (IsRow : Data → X → Type 0) (items : List Value) (i : ℕ) (v : Value)
    (xs ys : List X) (x : X)
    → i < length items → v ≡ get_or items i v → ys ≡ xs ++ x ∷ []
    → AreRows IsRow (map view (take i items)) xs → IsRow (view v) x → AreRows IsRow (map view (take (i + 1) items)) ys
rows_more {X} IsRow items i v xs ys x below is pushed rows row =
    subst (λ (zs : List X). AreRows IsRow (map view (take (i + 1) items)) zs) (sym pushed)
    (subst (λ (ds : List Data). AreRows IsRow ds (xs ++ x ∷ [])) (sym (more_seen items i v below is))
    (of_more (map view (take i items)) (view v) xs x rows row))

pub rows_all : {X : Type 0} (IsRow : Data → X → Type 0) (items : List Value) (i : ℕ) (xs : List X)
    → length items ≤ i → AreRows IsRow (map view (take i items)) xs → AreRows IsRow (map view items) xs
rows_all {X} IsRow items i xs past rows =
    subst (λ (vs : List Value). AreRows IsRow (map view vs) xs) (take_all i items past) rows

-- an element that is read
pub element_is : (Is : Data → Type 0) (items : List Value) (i : ℕ) (v : Value) → i < length items → v ≡ get_or items i v
    → Is (view v) → Is (get_or (map view items) i null)
element_is Is items i v below is such =
    subst Is (ap view is ∙ sym (get_or-map view items i v null below)) such

pub rows_none : {X : Type 0} (IsRow : Data → X → Type 0) (xs : List X) → xs ≡ [] → AreRows IsRow [] xs
rows_none {X} IsRow xs is = subst (λ (ys : List X). AreRows IsRow [] ys) (sym is) of_none

-- ---- the first error

-- the element at an index is the first that is no row
pub first_at : {X : Type 0} (IsRow : Data → X → Type 0) (Is : Data → Type 0) (field : List ℕ) (d : Data)
    (items : List Value) (i : ℕ) (v : Value) (xs : List X)
    → list_at field d ≡ Some (map view items) → i < length items → v ≡ get_or items i v
    → AreRows IsRow (map view (take i items)) xs → Is (view v) → IsFirstAt IsRow Is field i d
first_at {X} IsRow Is field d items i v xs stand below is rows such = record {
  elements = map view items;
  stand = stand;
  before = xs;
  rows = subst (λ (ds : List Data). AreRows IsRow ds xs) (sym (take-map view i items)) rows;
  inside = omega (arith, below, length-map items view);
  such = element_is Is items i v below is such;
}

pub text_fits : (field : List ℕ) (d : Data) (s : List ℕ) → text_at field d ≡ Some s → Fits d (field, expected.Text)
text_fits field d s is = ap (λ (o : Option (List ℕ)). is_some o) is

mapped_some : {X Y : Type 0} (f : X → Y) (o : Option X) (y : Y) → option_map f o ≡ Some y → is_some o ≡ true
mapped_some f None y is = absurd cc
mapped_some f (Some x) y is = refl

pub list_fits : (field : List ℕ) (d : Data) (ds : List Data) → list_at field d ≡ Some ds → Fits d (field, expected.List)
list_fits field d ds is = mapped_some elements (option_and_then as_array (get field d)) ds is

-- the error is in the field after these, which are as expected
first_wrong : (before : List Field) (field : List ℕ) (what : ExpectedValue) (after : List Field) (d : Data)
    (wrong : FieldError)
    → All (Fits d) before → IsWrong d wrong → IsAt field what wrong
    → IsFirstWrong (before ++ (field, what) ∷ after) d wrong
first_wrong before field what after d wrong fit misfits at = record {
  before = before;
  after = after;
  order = ap (λ (f : Field). before ++ f ∷ after)
      (ap (λ (n : List ℕ). (n, what)) (sym at.0) ∙ ap (λ (w : ExpectedValue). (wrong.field.now, w)) (sym at.1));
  fit = fit;
  misfits = misfits;
}

pub wrong_first : (field : List ℕ) (what : ExpectedValue) (after : List Field) (d : Data) (wrong : FieldError)
    → IsWrong d wrong
    → IsAt field what wrong → IsFirstWrong ((field, what) ∷ after) d wrong
wrong_first field what after d wrong misfits at =
    first_wrong [] field what after d wrong (All-nil (Fits d)) misfits at

one_fits : (d : Data) (f : Field) → Fits d f → All (Fits d) (f ∷ [])
one_fits d f fit = All-cons (Fits d) f [] fit (All-nil (Fits d))

pub two_fit : (d : Data) (f g : Field) → Fits d f → Fits d g → All (Fits d) (f ∷ g ∷ [])
two_fit d f g fit also = All-cons (Fits d) f (g ∷ []) fit (one_fits d g also)

pub wrong_second : (f : Field) (field : List ℕ) (what : ExpectedValue) (after : List Field) (d : Data)
    (wrong : FieldError)
    → Fits d f → IsWrong d wrong → IsAt field what wrong → IsFirstWrong (f ∷ (field, what) ∷ after) d wrong
wrong_second f field what after d wrong fit misfits at =
    first_wrong (f ∷ []) field what after d wrong (one_fits d f fit) misfits at

pub wrong_third : (f g : Field) (field : List ℕ) (what : ExpectedValue) (after : List Field) (d : Data)
    (wrong : FieldError)
    → Fits d f → Fits d g → IsWrong d wrong → IsAt field what wrong
    → IsFirstWrong (f ∷ g ∷ (field, what) ∷ after) d wrong
wrong_third f g field what after d wrong fit also misfits at =
    first_wrong (f ∷ g ∷ []) field what after d wrong (two_fit d f g fit also) misfits at
