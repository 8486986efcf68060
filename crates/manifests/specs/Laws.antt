-- The ways to write an entry of `check-cfg`, and that a text declares an entry exactly if it is written in one of them.
use Rattle.std.specs.Prelude.{◌≡◌, ◌↔◌, ℕ, Bool, true, false, List, [], ◌∷◌, ◌++◌, map, cond, codes, Some}
use Rattle.std.specs.List.{list_any}
use Rattle.cargo_platform.specs.Tokens.{Lexeme, LeftParen, RightParen, Ident, Comma, String}
use Rattle.manifests.specs.Declarations.{DeclaredEntry, DeclaredValues, AnyValue, Listed, HasTokens}
use Rattle.manifests.specs.Declarations.{declaration, Declares}

-- a name, with the raw mark `r#` or without
pub record WrittenName : Type 0 where
  pub raw : Bool
  pub name : List ℕ

-- a value between the parentheses of `values`
pub data WrittenValue : Type 0 where
  -- `"VALUE"`
  Text : (value : List ℕ) → WrittenValue
  -- `any()`
  Any : WrittenValue
  -- `none()`
  NoValue : WrittenValue

-- the two forms of an entry
pub data WrittenEntry : Type 0 where
  -- `cfg(NAME, .., NAME)`
  Names : (before : List WrittenName) (last : WrittenName) → WrittenEntry
  -- `cfg(NAME, .., values(VALUE, ..))`, where a comma may end the values, and one may follow their parenthesis
  NamesAndValues : (first : WrittenName) (more : List WrittenName) (values : List WrittenValue) (ends behind : Bool)
      → WrittenEntry

-- ---- how an entry is written

abbrev pub written_name : WrittenName → Lexeme
written_name n = Ident n.raw n.name

-- a comma after each
abbrev pub written_names : List WrittenName → List Lexeme
written_names [] = []
written_names (n ∷ ns) = written_name n ∷ Comma ∷ written_names ns

-- `WORD(`
abbrev pub opened : List ℕ → List Lexeme
opened word = Ident false word ∷ LeftParen ∷ []

abbrev pub written_value : WrittenValue → List Lexeme
written_value (Text value) = String value ∷ []
written_value Any = opened (codes "any") ++ RightParen ∷ []
written_value NoValue = opened (codes "none") ++ RightParen ∷ []

abbrev pub maybe_comma : Bool → List Lexeme
maybe_comma true = Comma ∷ []
maybe_comma false = []

-- a comma before each, and perhaps one at the end
abbrev pub written_more : Bool → List WrittenValue → List Lexeme
written_more ends [] = maybe_comma ends
written_more ends (v ∷ vs) = Comma ∷ written_value v ++ written_more ends vs

-- commas between them, and perhaps one at the end
abbrev pub written_values : Bool → List WrittenValue → List Lexeme
written_values ends [] = []
written_values ends (v ∷ vs) = written_value v ++ written_more ends vs

abbrev pub written_entry : WrittenEntry → List Lexeme
written_entry (Names before last) =
    opened (codes "cfg") ++ (written_names before ++ written_name last ∷ RightParen ∷ [])
written_entry (NamesAndValues first more values ends behind) =
    opened (codes "cfg") ++ (written_names (first ∷ more) ++ (opened (codes "values")
    ++ (written_values ends values ++ RightParen ∷ (maybe_comma behind ++ RightParen ∷ []))))

-- ---- the meaning of an entry

-- raw marks are ignored
abbrev pub names_in : List WrittenName → List (List ℕ)
names_in ns = map (λ n. n.name) ns

abbrev pub is_any : WrittenValue → Bool
is_any (Text value) = false
is_any Any = true
is_any NoValue = false

abbrev pub is_none : WrittenValue → Bool
is_none (Text value) = false
is_none Any = false
is_none NoValue = true

abbrev pub texts_in : List WrittenValue → List (List ℕ)
texts_in [] = []
texts_in (Text value ∷ vs) = value ∷ texts_in vs
texts_in (Any ∷ vs) = texts_in vs
texts_in (NoValue ∷ vs) = texts_in vs

-- with `any()` among them, no value or any; otherwise the texts and, with `none()` among them, no value too
abbrev pub meant_values : List WrittenValue → DeclaredValues
meant_values vs = cond (list_any is_any vs) AnyValue (Listed (texts_in vs) (list_any is_none vs))

-- names without `values` may have no value
abbrev pub meant_entry : WrittenEntry → DeclaredEntry
meant_entry (Names before last) = record { names = names_in before ++ last.name ∷ []; values = Listed [] true }
meant_entry (NamesAndValues first more values ends behind) =
    record { names = names_in (first ∷ more); values = meant_values values }

-- one way to write the entry is with these tokens
abbrev pub IsWritten : List Lexeme → DeclaredEntry → Type 0
IsWritten tokens e = (w : WrittenEntry) × (written_entry w ≡ tokens) × (meant_entry w ≡ e)

-- tokens declare an entry exactly if it can be written with them
abbrev pub DeclareWhatIsWritten : List Lexeme → DeclaredEntry → Type 0
DeclareWhatIsWritten tokens e = declaration tokens ≡ Some e ↔ IsWritten tokens e

-- a text declares an entry exactly if its tokens are such that the entry can be written with them
abbrev pub DeclaresWhatIsWritten : List ℕ → DeclaredEntry → Type 0
DeclaresWhatIsWritten text e =
    Declares text (Some e) ↔ ((tokens : List Lexeme) × HasTokens text (Some tokens) × IsWritten tokens e)
