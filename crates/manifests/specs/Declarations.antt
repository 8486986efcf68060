-- The declarations of a manifest: names, each with the values that it may have.
use Rattle.std.specs.Prelude.{◌≡◌, ℕ, Bool, true, false, not, ◌&&◌, List, [], ◌∷◌, ◌++◌, map, cond, codes, bytes_eq}
use Rattle.std.specs.Prelude.{Option, Some, None, unwrap_or, option_and_then, option_map, option_to_list}
use Rattle.std.specs.List.{list_any}
use Rattle.toml.specs.Data.{Data, Items, no_items, item, Members, get, get_member, as_array, as_str}
use Rattle.cargo_platform.specs.declared.tokens.Token.{Token}
use Rattle.cargo_platform.specs.declared.tokens.TokenFaultKind.{TokenFaultKind}
use Rattle.cargo_platform.specs.Tokens.{Lexeme, LeftParen, RightParen, Ident, Comma, String, Placed, lexeme}
use Rattle.cargo_platform.specs.Cut.{Lexical, Nothing, ComesBehind, lexemes}
use Rattle.cargo_platform.specs.Trees.{CfgValue, Alone, KeyPair}
use Rattle.partial_facts.specs.Partly.{is_named, names_of}
use Rattle.manifests.specs.declared.declared.ExpectedCfgs.{ExpectedCfgs}
use Rattle.manifests.specs.declared.declared.Entry.{Entry}
use Rattle.manifests.specs.declared.declared.Values.{Values}
use Rattle.manifests.specs.declared.declared.Values.TheVariants as values

pub data DeclaredValues : Type 0 where
  -- any value, and none
  AnyValue : DeclaredValues
  -- these values and, if the flag is set, none
  Listed : (texts : List (List ℕ)) (none : Bool) → DeclaredValues

-- names, with the values that each may have
pub record DeclaredEntry : Type 0 where
  pub names : List (List ℕ)
  pub values : DeclaredValues

-- true if a name may be used without a value
abbrev pub allows_none : DeclaredValues → Bool
allows_none AnyValue = true
allows_none (Listed texts none) = none

abbrev pub allows_value : List ℕ → DeclaredValues → Bool
allows_value text AnyValue = true
allows_value text (Listed texts none) = is_named text texts

-- raw marks are ignored
abbrev pub declares_entry : CfgValue → DeclaredEntry → Bool
declares_entry (Alone n) e = is_named n.name e.names && allows_none e.values
declares_entry (KeyPair k text) e = is_named k.name e.names && allows_value text e.values

abbrev pub is_declared : List DeclaredEntry → CfgValue → Bool
is_declared es c = list_any (declares_entry c) es

-- ---- the declaration in a text, by its tokens

-- the texts and words between the parentheses of `values`
abbrev pub declared_values : List (List ℕ) → (any none : Bool) → DeclaredValues
declared_values texts true none = AnyValue
declared_values texts false none = Listed texts none

-- the only remaining token is a parenthesis
abbrev pub is_paren : List Lexeme → Bool
is_paren (RightParen ∷ []) = true
is_paren _ = false

-- the tokens after the first of the two parentheses that close `values`: `)` or `,)`
abbrev pub is_close : List Lexeme → Bool
is_close (Comma ∷ ls) = is_paren ls
is_close ls = is_paren ls

-- the values after the parenthesis of `values`, given those before: a value comes next, or what separates two
abbrev pub values_from : (comes : Bool) → List (List ℕ) → (any none : Bool) → List Lexeme → Option DeclaredValues
values_from comes texts any none (RightParen ∷ ls) = cond (is_close ls) (Some (declared_values texts any none)) None
values_from false texts any none (Comma ∷ ls) = values_from true texts any none ls
values_from true texts any none (String text ∷ ls) = values_from false (texts ++ text ∷ []) any none ls
values_from true texts any none (Ident false word ∷ LeftParen ∷ RightParen ∷ ls) =
    cond (bytes_eq word (codes "any")) (values_from false texts true none ls)
    (cond (bytes_eq word (codes "none")) (values_from false texts any true ls) None)
values_from _ _ _ _ _ = None

abbrev pub is_no_name : List (List ℕ) → Bool
is_no_name [] = true
is_no_name (n ∷ ns) = false

abbrev pub with_values : List (List ℕ) → DeclaredValues → DeclaredEntry
with_values names values = record { names = names; values = values }

-- the entry after the first parenthesis, given the names before
abbrev pub names_from : List (List ℕ) → List Lexeme → Option DeclaredEntry
names_from names (Ident raw name ∷ RightParen ∷ []) = Some (with_values (names ++ name ∷ []) (Listed [] true))
names_from names (Ident raw name ∷ Comma ∷ ls) = names_from (names ++ name ∷ []) ls
names_from names (Ident raw name ∷ LeftParen ∷ ls) =
    cond (not raw && bytes_eq name (codes "values") && not (is_no_name names))
    (option_map (with_values names) (values_from true [] false false ls)) None
names_from _ _ = None

abbrev pub is_cfg : Lexeme → Bool
is_cfg (Ident raw word) = not raw && bytes_eq word (codes "cfg")
is_cfg _ = false

abbrev pub is_left : Lexeme → Bool
is_left LeftParen = true
is_left _ = false

-- `cfg(NAME, ..)` or `cfg(NAME, .., values(VALUE, ..))`
abbrev pub declaration : List Lexeme → Option DeclaredEntry
declaration [] = None
declaration (l ∷ []) = None
declaration (l ∷ m ∷ ls) = cond (is_cfg l && is_left m) (names_from [] ls) None

-- the tokens of a text, or none if it has a lexical error
abbrev pub HasTokens : List ℕ → Option (List Lexeme) → Type 0
HasTokens text (Some ls) = (ts : List Placed) × (to : ℕ) × ComesBehind text 0 ts Nothing to × (lexemes ts ≡ ls)
HasTokens text None =
    (ts : List Placed) × (fault : TokenFaultKind) × (at to : ℕ) × ComesBehind text 0 ts (Lexical fault at) to

abbrev pub Declares : List ℕ → Option DeclaredEntry → Type 0
Declares text e = (ls : Option (List Lexeme)) × HasTokens text ls × (e ≡ option_and_then declaration ls)

-- the declarations in texts, in order
pub data DeclareEach : List (List ℕ) → List DeclaredEntry → Type 0 where
  each_none : DeclareEach [] []
  each_more : (texts : List (List ℕ)) (es : List DeclaredEntry) (text : List ℕ) (e : Option DeclaredEntry)
      → DeclareEach texts es → Declares text e → DeclareEach (texts ++ text ∷ []) (es ++ option_to_list e)

-- the declaration in one more text, if there is one, is appended
abbrev pub AddsBy : Option (List ℕ) → List DeclaredEntry → List DeclaredEntry → Type 0
AddsBy (Some text) old new = (e : Option DeclaredEntry) × Declares text e × (new ≡ old ++ option_to_list e)
AddsBy None old new = new ≡ old

-- ---- the position of the texts in a manifest

-- the strings among some items
abbrev pub strings : Items → List (List ℕ)
strings no_items = []
strings (item d ds) = option_to_list (as_str d) ++ strings ds

-- the value of `lints.rust.unexpected_cfgs.check-cfg`
abbrev pub check_cfg_of : Members → Option Data
check_cfg_of ms =
    option_and_then (get (codes "check-cfg"))
    (option_and_then (get (codes "unexpected_cfgs")) (option_and_then (get (codes "rust"))
    (get_member (codes "lints") ms)))

abbrev pub check_cfg_texts : Members → List (List ℕ)
check_cfg_texts ms = strings (unwrap_or (option_and_then as_array (check_cfg_of ms)) no_items)

-- the declarations of a manifest
abbrev pub IsDeclaredBy : Members → List DeclaredEntry → Type 0
IsDeclaredBy ms es = DeclareEach (check_cfg_texts ms) es

-- ---- the meaning of an `ExpectedCfgs`

abbrev pub lexemes_in : List Token → List Lexeme
lexemes_in ts = map lexeme ts

abbrev pub values_in : Values → DeclaredValues
values_in values.Any = AnyValue
values_in (values.Listed texts none) = Listed (names_of texts.items) none

abbrev pub entry_in : Entry → DeclaredEntry
entry_in e = record { names = names_of e.names.items; values = values_in e.values }

abbrev pub declarations_of : ExpectedCfgs → List DeclaredEntry
declarations_of d = map entry_in d.entries.items
