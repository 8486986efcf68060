-- Texts that end with a NUL are read one by one.
use Rattle.std.proofs.Common.{◌≡◌, sym, ap, ◌∙◌, ℕ, List, [], ◌∷◌, ◌++◌, length, append_assoc}
use Rattle.std.proofs.Common.{◌+◌, flat_map, append-nil, refl}
use Rattle.std.specs.Prelude.{bytes_eq, if◌then◌else◌}
use Rattle.std.proofs.lemmas.List.Concat.{flat_map-append}
use Rattle.std.proofs.lemmas.List.{length-append}
use Rattle.std.specs.List.{AllByRecursion}
use Rattle.byte_commands.specs.declared.call_input.TheConstants.{PROGRAM, STDIN_PATH}
use Rattle.byte_commands.specs.CallInput.{ended_by_nul, HasNoNul, Entry, IsEntry, entry_bytes, contents_in, input_in}

all_more : {X : Type 0} (P : X → Type 0) (xs : List X) (x : X) → AllByRecursion P xs → P x
    → AllByRecursion P (xs ++ x ∷ [])
all_more P [] x all has = (has, tt)
all_more P (y ∷ ys) x all has = (all.0, all_more P ys x all.1 has)

-- the bytes before a place, of which none is a NUL, and those that are left
abbrev pub IsReadTo : List ℕ → ℕ → List ℕ → Type 0
IsReadTo bytes at left =
    (front : List ℕ) × ((bytes ≡ front ++ left) × (length front ≡ at) × HasNoNul front)

pub one_byte : (bytes left others : List ℕ) (at first : ℕ) → IsReadTo bytes at left → left ≡ first ∷ others
    → (first ≡ 0 → ⊥) → IsReadTo bytes (at + 1) others
one_byte bytes left others at first (front, (whole, size, none)) is other = (
  front ++ first ∷ [],
  (
    whole ∙ ap (λ (z : List ℕ). front ++ z) is ∙ sym (append_assoc front (first ∷ []) others),
    length-append front (first ∷ []) ∙ ap (λ (n : ℕ). n + 1) size,
    all_more (λ (byte : ℕ). byte ≡ 0 → ⊥) front first none other,
  ),
)

-- the arguments that are read so far, behind the name of the program
abbrev pub AreArgumentsTo : List ℕ → List ℕ → List (List ℕ) → Type 0
AreArgumentsTo bytes left arguments =
    (words : List (List ℕ)) × ((arguments ≡ PROGRAM.now ∷ words) × (bytes ≡ flat_map ended_by_nul words ++ left)
    × AllByRecursion HasNoNul words)

-- the entries that are read so far, with the files and the standard input that they hand over
abbrev pub AreFilesTo : List ℕ → List ℕ → List (List ℕ) → List ℕ → Type 0
AreFilesTo bytes left files input =
    (entries : List Entry) × ((bytes ≡ flat_map entry_bytes entries ++ left) × AllByRecursion IsEntry entries
    × (files ≡ contents_in entries) × (input ≡ input_in [] entries))

contents_more : (es : List Entry) (e : Entry)
    → contents_in (es ++ e ∷ []) ≡ contents_in es ++ (if bytes_eq e.name STDIN_PATH.now then [] else e.content ∷ [])
contents_more [] e = append-nil (if bytes_eq e.name STDIN_PATH.now then [] else e.content ∷ [])
contents_more (x ∷ xs) e =
    let first : List (List ℕ) = if bytes_eq x.name STDIN_PATH.now then [] else x.content ∷ [] in
    ap (λ (z : List (List ℕ)). first ++ z) (contents_more xs e)
    ∙ sym (append_assoc first (contents_in xs) (if bytes_eq e.name STDIN_PATH.now then [] else e.content ∷ []))

input_more : (before : List ℕ) (es : List Entry) (e : Entry) → input_in before (es ++ e ∷ [])
    ≡ (if bytes_eq e.name STDIN_PATH.now then e.content else input_in before es)
input_more before [] e = refl
input_more before (x ∷ xs) e = input_more (if bytes_eq x.name STDIN_PATH.now then x.content else before) xs e

-- one more file is read
pub one_file : (bytes left after name input more_input : List ℕ) (files more : List (List ℕ)) (e : Entry)
    → AreFilesTo bytes left files input → left ≡ entry_bytes e ++ after → IsEntry e → name ≡ e.name
    → more ≡ files ++ (if bytes_eq name STDIN_PATH.now then [] else e.content ∷ [])
    → more_input ≡ (if bytes_eq name STDIN_PATH.now then e.content else input)
    → AreFilesTo bytes after more more_input
one_file bytes left after name input more_input files more e (es, (whole, entries, are, is)) first entry named added
    set =
    let read : List ℕ = flat_map entry_bytes es in (
      es ++ e ∷ [],
      (
        whole
            ∙ ap (λ (z : List ℕ). read ++ z) first
            ∙ sym (append_assoc read (entry_bytes e) after)
            ∙ ap (λ (z : List ℕ). (read ++ z) ++ after) (sym (append-nil (entry_bytes e)))
            ∙ ap (λ (z : List ℕ). z ++ after) (sym (flat_map-append entry_bytes es (e ∷ []))),
        all_more IsEntry es e entries entry,
        added
            ∙ (λ i. are i ++ (if bytes_eq (named i) STDIN_PATH.now then [] else e.content ∷ []))
            ∙ sym (contents_more es e),
        set
            ∙ (λ i. if bytes_eq (named i) STDIN_PATH.now then e.content else is i)
            ∙ sym (input_more [] es e),
      ),
    )
