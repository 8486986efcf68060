-- Laws of the changes of the grammar of expressions: from the released grammar to the transitional one, and from that
-- to today's.
use Rattle.std.specs.Prelude.{◌≡◌, ◌⊎◌, ◌↔◌, ◌&&◌, ◌≤◌, ◌<◌, ℕ, Bool, false, List, [], ◌∷◌, ◌++◌, IsTrue, IsFalse}
use Rattle.std.specs.Prelude.{length, drop, codes}
use Rattle.std.specs.List.{list_any}
use Rattle.cargo_platform.specs.Tokens.{Lexeme, Ident, Equals, Placed}
use Rattle.cargo_platform.specs.Trees.{Name, CfgValue, Alone, KeyPair, Tree, Condition}
use Rattle.cargo_platform.specs.Cut.{lexemes, Token}
use Rattle.cargo_platform.specs.Spelling.{is_literal_word, Spells, Expressions, IsAccepted, IsTreeText}
use Rattle.cargo_platform.specs.Faults.{Fault, UnexpectedToken, UnterminatedExpression, IsRefusedBy, IsRefused}
use Rattle.cargo_platform.specs.Faults.{IsCompletable, IsCompletableBy, span_of}
use Rattle.cargo_platform.specs.WellFormed.{IsWellFormed}
use Rattle.cargo_platform.specs.Platforms.{IsConditionText, IsRefusedConditionBy}
use Rattle.cargo_platform.specs.Earlier.{is_literal_name, released, SpellsReleased, IsAcceptedReleased}
use Rattle.cargo_platform.specs.Earlier.{IsReleasedTreeText, IsReleasedConditionText, IsWellFormedReleased}
use Rattle.cargo_platform.specs.Earlier.{SpellsTransitional, IsAcceptedTransitional, IsTransitionalTreeText}
use Rattle.cargo_platform.specs.Earlier.{IsTransitionalConditionText, IsWellFormedTransitional}
use Rattle.cargo_platform.specs.Warnings.{values, condition_values, keyword_warnings}

-- ---- marked `true` and `false` alone became names

-- marked `true` or `false` alone
abbrev pub is_marked_literal : CfgValue → Bool
is_marked_literal (Alone n) = n.raw && is_literal_name n
is_marked_literal (KeyPair k v) = false

-- what tokens spelled is the tree that they spell now, with literals in place of marked ones, and nothing else
abbrev pub SpelledReleased : List Lexeme → Type 0
SpelledReleased ts = (d e : Tree) → SpellsTransitional e ts → (SpellsReleased d ts ↔ (d ≡ released e))

-- the same lists of tokens are accepted
abbrev pub IsAcceptedAsReleased : List Lexeme → Type 0
IsAcceptedAsReleased ts = IsAcceptedTransitional ts ↔ IsAcceptedReleased ts

-- the same texts are refused, with the same faults
abbrev pub IsRefusedAsReleased : List ℕ → Fault → Type 0
IsRefusedAsReleased text fault =
    IsRefusedBy IsAcceptedTransitional Expressions text fault ↔ IsRefusedBy IsAcceptedReleased Expressions text fault

-- the same texts spell a tree
abbrev pub IsTreeTextAsReleased : List ℕ → Type 0
IsTreeTextAsReleased text = ((e : Tree) × IsTransitionalTreeText text e) ↔ ((d : Tree) × IsReleasedTreeText text d)

-- a text spells the same tree if it has no marked literal alone
abbrev pub KeepsTree : List ℕ → Type 0
KeepsTree text =
    (d e : Tree) → IsReleasedTreeText text d → IsTransitionalTreeText text e
    → IsFalse (list_any is_marked_literal (values e)) → e ≡ d

-- the same texts spell a condition
abbrev pub IsConditionTextAsReleased : List ℕ → Type 0
IsConditionTextAsReleased text =
    ((p : Condition) × IsTransitionalConditionText text p) ↔ ((q : Condition) × IsReleasedConditionText text q)

-- a text spells the same condition if it has no marked literal alone
abbrev pub KeepsCondition : List ℕ → Type 0
KeepsCondition text =
    (p q : Condition) → IsReleasedConditionText text p → IsTransitionalConditionText text q
    → IsFalse (list_any is_marked_literal (condition_values q)) → q ≡ p

-- the same texts are refused as conditions, with the same faults about the same texts
abbrev pub IsConditionRefusedAsReleased : List ℕ → List ℕ → Fault → Type 0
IsConditionRefusedAsReleased text orig fault =
    IsRefusedConditionBy (IsRefusedBy IsAcceptedTransitional Expressions) text orig fault
    ↔ IsRefusedConditionBy (IsRefusedBy IsAcceptedReleased Expressions) text orig fault

-- ---- unmarked `true` and `false` stopped being keys

-- unmarked `true` or `false` as a key
abbrev pub is_literal_key : CfgValue → Bool
is_literal_key (Alone n) = false
is_literal_key (KeyPair k v) = is_literal_word k

-- whatever a list of tokens spells now, it spelled
abbrev pub SpelledTransitional : List Lexeme → Type 0
SpelledTransitional ts = (e : Tree) → Spells e ts → SpellsTransitional e ts

-- a list of tokens that spelled a tree is refused exactly if a literal is a key in it, at any depth
abbrev pub IsRefusedForLiteralKeys : List Lexeme → Type 0
IsRefusedForLiteralKeys ts =
    (e : Tree) → SpellsTransitional e ts
    → ((IsAccepted Expressions ts → ⊥) ↔ IsTrue (list_any is_literal_key (values e)))

-- ---- both changes at once: from the released grammar to today's

-- ---- both changes at once: from the released grammar to today's
-- what a text spelled is the tree that it spells now, with literals in place of marked ones, and nothing else
abbrev pub SpelledReleasedText : List ℕ → Type 0
SpelledReleasedText text = (d e : Tree) → IsTreeText text e → (IsReleasedTreeText text d ↔ (d ≡ released e))

-- a text that spelled a tree spells none today exactly if a literal is a key in it, at any depth
abbrev pub IsTextRefusedForLiteralKeys : List ℕ → Type 0
IsTextRefusedForLiteralKeys text =
    (d : Tree) → IsReleasedTreeText text d
    → (((e : Tree) → IsTreeText text e → ⊥) ↔ IsTrue (list_any is_literal_key (values d)))

-- a fault stays if what is before it can still be completed
abbrev pub KeepsFault : List ℕ → Fault → Type 0
KeepsFault text fault =
    (r : IsRefusedBy IsAcceptedReleased Expressions text fault) → IsCompletable Expressions (lexemes r.prefix)
    → IsRefused Expressions text fault

-- there are no more tokens before today's fault than before the former one
abbrev pub ComesNoLater : List ℕ → Fault → Fault → Type 0
ComesNoLater text before now =
    (r : IsRefusedBy IsAcceptedReleased Expressions text before) (q : IsRefused Expressions text now)
    → length q.prefix ≤ length r.prefix

-- the fault was the same, after the same tokens and with the same span
abbrev pub WasThere : {text : List ℕ} {fault : Fault} → IsRefused Expressions text fault → Type 0
WasThere {text = text} {fault = fault} q =
    (r : IsRefusedBy IsAcceptedReleased Expressions text fault) × (r.prefix ≡ q.prefix)
    × (span_of text r.accepted r.next ≡ span_of text q.accepted q.next)

-- the fault is at `=` after an unmarked `true` or `false`, which the Rust crate takes as a key
pub record IsAtLiteralKey (text : List ℕ) (fault : Fault) (q : IsRefused Expressions text fault) : Type 0 where
  pub before : List Lexeme
  pub key : Name
  pub equals : Placed
  pub literal : IsTrue (is_literal_word key)
  pub prefix : lexemes q.prefix ≡ before ++ Ident key.raw key.name ∷ []
  pub next : q.next ≡ Token equals
  pub is_equals : equals.token ≡ Equals
  -- with `=` the tokens could still be completed
  pub went_on : IsCompletableBy IsAcceptedReleased (lexemes q.prefix ++ Equals ∷ [])
  -- if the literal begins the text, it is a whole expression; in a group, `)` is expected after it
  pub at_start : before ≡ [] → fault ≡ UnterminatedExpression (drop equals.start text)
  pub in_group : (before ≡ [] → ⊥) → fault ≡ UnexpectedToken (codes "`)`") (codes "`=`")

-- today's fault was the former one, or is at `=` after a literal
abbrev pub WasThereOrIsAtKey : List ℕ → Fault → Type 0
WasThereOrIsAtKey text fault = (q : IsRefused Expressions text fault) → WasThere q ⊎ IsAtLiteralKey text fault q

-- if today's fault is at `=` after a literal, there were more tokens before the former fault
abbrev pub CameLaterAtKey : List ℕ → Fault → Fault → Type 0
CameLaterAtKey text before now =
    (r : IsRefusedBy IsAcceptedReleased Expressions text before) (q : IsRefused Expressions text now)
    → IsAtLiteralKey text now q → length q.prefix < length r.prefix

-- today's fault is there if the text spelled a tree
abbrev pub IsAtKeyWhereRead : List ℕ → Fault → Type 0
IsAtKeyWhereRead text now =
    (d : Tree) (q : IsRefused Expressions text now) → IsReleasedTreeText text d → IsAtLiteralKey text now q

-- ---- well-formed trees, and warnings

-- ---- well-formed trees, and warnings
-- a tree was well-formed exactly if it was so in the transitional grammar, and has no marked literal alone
abbrev pub WasWellFormedWithoutMarkedLiterals : Tree → Type 0
WasWellFormedWithoutMarkedLiterals e =
    IsWellFormedReleased e ↔ (IsWellFormedTransitional e × IsFalse (list_any is_marked_literal (values e)))

-- a tree is well-formed exactly if it was so in the transitional grammar, and no literal is a key in it
abbrev pub IsWellFormedWithoutLiteralKeys : Tree → Type 0
IsWellFormedWithoutLiteralKeys e =
    IsWellFormed e ↔ (IsWellFormedTransitional e × IsFalse (list_any is_literal_key (values e)))

-- no text leads to a warning about a keyword
abbrev pub GivesNoKeyword : List ℕ → Type 0
GivesNoKeyword text = (path : List ℕ) (p : Condition) → IsConditionText text p → keyword_warnings path p ≡ []
