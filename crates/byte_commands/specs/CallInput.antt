-- What a caller hands over, as bytes.
use Rattle.std.specs.Prelude.{◌≡◌, ℕ, List, [], ◌∷◌, ◌++◌, flat_map, map, length, bytes_eq, if◌then◌else◌}
use Rattle.memory_files.specs.declared.GivenFile.{GivenFile}
use Rattle.byte_commands.specs.declared.call_input.First.{First}
use Rattle.std.specs.List.{AllByRecursion}
use Rattle.std.specs.Str.Parse.{digits_value, without_leading_plus}
use Rattle.byte_commands.specs.declared.call_input.TheConstants.{PROGRAM, STDIN_PATH}

-- a text and a NUL after it
abbrev pub ended_by_nul : List ℕ → List ℕ
ended_by_nul text = text ++ 0 ∷ []

-- no byte of the text is a NUL
abbrev pub HasNoNul : List ℕ → Type 0
HasNoNul text = AllByRecursion (λ byte. byte ≡ 0 → ⊥) text

-- the arguments are the name of the program, and the texts in the bytes, each of which ends with a NUL
abbrev pub AreArguments : List ℕ → List (List ℕ) → Type 0
AreArguments bytes arguments =
    (words : List (List ℕ)) × ((arguments ≡ PROGRAM.now ∷ words) × (flat_map ended_by_nul words ≡ bytes)
    × AllByRecursion HasNoNul words)

-- a file as it is handed over: its name, a NUL, the digits of its length, a NUL, and its bytes
pub record Entry : Type 0 where
  pub name : List ℕ
  pub digits : List ℕ
  pub content : List ℕ

abbrev pub entry_bytes : Entry → List ℕ
entry_bytes e = e.name ++ 0 ∷ (e.digits ++ 0 ∷ e.content)

-- neither text has a NUL, and the bytes are as many as the digits say
abbrev pub IsEntry : Entry → Type 0
IsEntry e =
    HasNoNul e.name × HasNoNul e.digits × (length e.content ≡ digits_value 10 (without_leading_plus e.digits))

abbrev pub entry_of : First → Entry
entry_of f = record { name = f.name.now; digits = f.digits.now; content = f.content.now }

-- the bytes of the entries that are files and not standard input
abbrev pub contents_in : List Entry → List (List ℕ)
contents_in [] = []
contents_in (e ∷ es) = (if bytes_eq e.name STDIN_PATH.now then [] else e.content ∷ []) ++ contents_in es

-- standard input: the bytes of the last entry that is standard input
abbrev pub input_in : List ℕ → List Entry → List ℕ
input_in before [] = before
input_in before (e ∷ es) = input_in (if bytes_eq e.name STDIN_PATH.now then e.content else before) es

abbrev pub contents_of : List GivenFile → List (List ℕ)
contents_of files = map (λ f. f.bytes.now) files

-- the files and standard input are those in the bytes
abbrev pub AreFiles : List ℕ → List (List ℕ) → List ℕ → Type 0
AreFiles bytes files input =
    (entries : List Entry) × ((flat_map entry_bytes entries ≡ bytes) × AllByRecursion IsEntry entries
    × (files ≡ contents_in entries) × (input ≡ input_in [] entries))
