-- What a reader answers, from what it read or where it stopped.
use Rattle.std.proofs.Common.{◌≡◌, ℕ, List, [], Some, Result, Ok, Err}
use Rattle.cargo_platform.specs.declared.error.ParseError.{ParseError}
use Rattle.cargo_platform.specs.declared.error.ReadError.{ReadError}
use Rattle.cargo_platform.specs.declared.error.ReadError.TheVariants as errors
use Rattle.cargo_platform.specs.declared.refusal.Refusal.{Refusal}
use Rattle.cargo_platform.specs.Trees.{CfgValue, Tree, Value}
use Rattle.cargo_platform.specs.Spelling.{Values, Expressions, IsValueText, IsTreeText}
use Rattle.cargo_platform.specs.Walk.{WithTree, start}
use Rattle.cargo_platform.specs.Errors.{IfParse, orig_of, fault_in, span_in}
use Rattle.cargo_platform.specs.Inside.Refusals.{refused_fault, refused_span, Becomes}
use Rattle.cargo_platform.specs.Cut.{AreSpaces, lexemes, Nothing}
use Rattle.cargo_platform.specs.Inside.Ahead.{Ahead, NextIs}
use Rattle.cargo_platform.specs.Inside.Parsing.{Reads}
use Rattle.cargo_platform.proofs.Positions.{tree_spelled}
use Rattle.cargo_platform.proofs.Parsing.{value_spelled}
use Rattle.cargo_platform.proofs.Refusing.{path_cut}

-- a value that was read up to the end is what the text spells
pub value_read : (text : List ℕ) (l m : Ahead) (c : CfgValue) → l.text ≡ text
    → AreSpaces text 0 l.place → Reads Values l m start (WithTree (Value c) []) → NextIs m Nothing → IsValueText text c
value_read text l m c same spaces a done =
    (a.us, path_cut text l m a.us same spaces a.path done, value_spelled c (lexemes a.us) a.leads)

pub expression_read : (text : List ℕ) (l m : Ahead) (e : Tree) → l.text ≡ text
    → AreSpaces text 0 l.place → Reads Expressions l m start (WithTree e []) → NextIs m Nothing → IsTreeText text e
expression_read text l m e same spaces a done =
    (a.us, path_cut text l m a.us same spaces a.path done, tree_spelled e (lexemes a.us) a.leads)

-- a statement about the fault of a refusal is true of its error
pub parse_is : (A : Type 0) (r : Refusal) (orig : List ℕ) (x : ReadError) (P : ParseError → Type 0) → Becomes r orig x
    → ((e : ParseError) → orig_of e ≡ orig → refused_fault r ≡ Some (fault_in e) → refused_span r ≡ span_in e → P e)
    → IfParse {A = A} (Err x) P
parse_is A r orig (errors.Parse e) P b f = f e b.0 b.1 b.2
parse_is A r orig (errors.Memory e) P b f = tt

-- a part of a statement about an error
pub if_parse : (A : Type 0) (x : ReadError) (P Q : ParseError → Type 0) → ((e : ParseError) → P e → Q e)
    → IfParse {A = A} (Err x) P → IfParse {A = A} (Err x) Q
if_parse A (errors.Parse e) P Q f h = f e h
if_parse A (errors.Memory e) P Q f h = tt

pub answer_parse : (A : Type 0) (answer : Result A ReadError) (P Q : ParseError → Type 0)
    → ((e : ParseError) → P e → Q e) → IfParse answer P → IfParse answer Q
answer_parse A (Ok a) P Q f h = tt
answer_parse A (Err x) P Q f h = if_parse A x P Q f h
