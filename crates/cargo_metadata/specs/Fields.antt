-- The values of the fields of an object.
use Rattle.std.specs.Prelude.{◌≡◌, ℕ, Bool, true, false, cond, ◌==◌, ◌&&◌, List, [], ◌∷◌, ◌++◌, Option, Some, None, codes}
use Rattle.std.specs.Prelude.{All, bytes_eq}
use Rattle.std.specs.Prelude.{option_map, option_and_then, is_some}
use Rattle.serde_json.specs.Data.{Data, null, boolean, number, string, array, object, Items, no_items, item, Members}
use Rattle.serde_json.specs.Data.{no_members, member}
use Rattle.serde_json.specs.Find.{get, as_str, as_bool, as_array, as_object, as_number, as_u64}
use Rattle.cargo_metadata.specs.declared.nodes.Kind.{Kind}
use Rattle.cargo_metadata.specs.declared.nodes.Kind.TheVariants.{Normal, Build, Dev}
use Rattle.cargo_metadata.specs.declared.refusals.ExpectedValue.{ExpectedValue}
use Rattle.cargo_metadata.specs.declared.refusals.ExpectedValue.TheVariants as expected
use Rattle.cargo_metadata.specs.declared.refusals.FieldError.{FieldError}

abbrev pub field_at : List ℕ → Data → Option Data
field_at field d = get field d

abbrev pub text_at : List ℕ → Data → Option (List ℕ)
text_at field d = option_and_then as_str (get field d)

abbrev pub flag_at : List ℕ → Data → Option Bool
flag_at field d = option_and_then as_bool (get field d)

abbrev pub elements : Items → List Data
elements no_items = []
elements (item d ds) = d ∷ elements ds

abbrev pub list_at : List ℕ → Data → Option (List Data)
list_at field d = option_map elements (option_and_then as_array (get field d))

abbrev pub kind_named : List ℕ → Option Kind
kind_named s = cond (bytes_eq s (codes "build")) (Some Build) (cond (bytes_eq s (codes "dev")) (Some Dev) None)

-- a missing value or null is the normal kind
abbrev pub kind_in : Option Data → Option Kind
kind_in None = Some Normal
kind_in (Some null) = Some Normal
kind_in (Some (boolean b)) = None
kind_in (Some (number n)) = None
kind_in (Some (string s)) = kind_named s
kind_in (Some (array ds)) = None
kind_in (Some (object ms)) = None

-- a missing value or null is no condition
abbrev pub condition_in : Option Data → Option (Option (List ℕ))
condition_in None = Some None
condition_in (Some null) = Some None
condition_in (Some (boolean b)) = None
condition_in (Some (number n)) = None
condition_in (Some (string s)) = Some (Some s)
condition_in (Some (array ds)) = None
condition_in (Some (object ms)) = None

abbrev pub are_texts : List Data → Bool
are_texts [] = true
are_texts (d ∷ ds) = is_some (as_str d) && are_texts ds

-- a list of texts
abbrev pub is_texts : Option Items → Bool
is_texts None = false
is_texts (Some ds) = are_texts (elements ds)

abbrev pub are_lists : Members → Bool
are_lists no_members = true
are_lists (member name d ms) = is_texts (as_array d) && are_lists ms

-- an object, each of whose members is a list of texts
abbrev pub is_features : Option Members → Bool
is_features None = false
is_features (Some ms) = are_lists ms

abbrev pub is_one : Option ℕ → Bool
is_one None = false
is_one (Some n) = n == 1

-- true if the value of a field is as expected
abbrev pub fits : ExpectedValue → Option Data → Bool
fits expected.Text found = is_some (option_and_then as_str found)
fits expected.List found = is_some (option_and_then as_array found)
fits expected.One found = is_one (option_and_then as_u64 (option_and_then as_number found))
fits expected.Resolve found = is_some (option_and_then as_object found)
fits expected.Kind found = is_some (kind_in found)
fits expected.Condition found = is_some (condition_in found)
fits expected.Flag found = is_some (option_and_then as_bool found)
fits expected.Features found = is_features (option_and_then as_object found)

abbrev pub IsWrong : Data → FieldError → Type 0
IsWrong d wrong = fits wrong.expected (get wrong.field.now d) ≡ false

-- the error is about this field, and expects this value
abbrev pub IsAt : List ℕ → ExpectedValue → FieldError → Type 0
IsAt field what wrong = (wrong.field.now ≡ field) × (wrong.expected ≡ what)

-- ---- the fields, in the order in which they are read

-- a field, and the value that is expected in it
abbrev pub Field : Type 0
Field = List ℕ × ExpectedValue

abbrev pub fields_of_document : List Field
fields_of_document =
    (codes "version", expected.One) ∷ (codes "packages", expected.List) ∷ (codes "workspace_members", expected.List)
    ∷ (codes "resolve", expected.Resolve) ∷ []

abbrev pub fields_of_package : List Field
fields_of_package = (codes "id", expected.Text) ∷ (codes "name", expected.Text) ∷ (codes "version", expected.Text) ∷ []

abbrev pub fields_of_resolve : List Field
fields_of_resolve = (codes "nodes", expected.List) ∷ []

abbrev pub fields_of_node : List Field
fields_of_node = (codes "id", expected.Text) ∷ (codes "deps", expected.List) ∷ []

abbrev pub fields_of_dependency : List Field
fields_of_dependency = (codes "pkg", expected.Text) ∷ (codes "dep_kinds", expected.List) ∷ []

abbrev pub fields_of_kind : List Field
fields_of_kind = (codes "kind", expected.Kind) ∷ (codes "target", expected.Condition) ∷ []

-- the value of the field is as expected
abbrev pub Fits : Data → Field → Type 0
Fits d field = fits field.1 (get field.0 d) ≡ true

-- the error is about the first of these fields without the expected value
pub record IsFirstWrong (fields : List Field) (d : Data) (wrong : FieldError) : Type 0 where
  pub before : List Field
  pub after : List Field
  pub order : fields ≡ before ++ (wrong.field.now, wrong.expected) ∷ after
  pub fit : All (Fits d) before
  pub misfits : IsWrong d wrong
