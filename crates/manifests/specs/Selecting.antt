-- The rows of a manifest for a target, and the reasons why there are none.
use Rattle.std.specs.Prelude.{◌≡◌, ℕ, Bool, List, [], ◌∷◌, ◌++◌, map, Option, Some, None}
use Rattle.std.specs.FinSet.{contains}
use Rattle.std.specs.List.{All}
use Rattle.toml.specs.Data.{Members, as_table}
use Rattle.cargo_platform.specs.Trees.{Condition, value_of}
use Rattle.cargo_platform.specs.Facts.{Pair, fact_set}
use Rattle.cargo_platform.specs.Platforms.{IsConditionText, IsRefusedConditionAt}
use Rattle.cargo_platform.specs.Errors.{orig_of, fault_in, span_in}
use Rattle.cargo_platform.specs.declared.error.ParseError.{ParseError}
use Rattle.known_targets.specs.declared.known.KnownTarget.{KnownTarget}
use Rattle.known_targets.specs.Sets.{place}
use Rattle.known_targets.specs.Table.{target_name, target_facts}
use Rattle.manifests.specs.TargetFacts.{facts_told}
use Rattle.manifests.specs.Choosing.{decided_truth, IfOpen, IsDecisionBy}
use Rattle.manifests.specs.Entries.{Entry}
use Rattle.manifests.specs.Tables.{DependencyRow, row_of, rows_of, target_of}
use Rattle.manifests.specs.declared.selection.TargetFacts.{TargetFacts}
use Rattle.manifests.specs.declared.selection.Decision.{Decision}
use Rattle.manifests.specs.declared.selection.Decision.TheVariants.{Selected}
use Rattle.manifests.specs.declared.selection.Query.{Query}
use Rattle.manifests.specs.declared.selection.DependencyDecision.{DependencyDecision}
use Rattle.manifests.specs.declared.selection.SelectError.{SelectError}
use Rattle.manifests.specs.declared.selection.SelectError.TheVariants.{Memory, TargetIsNoTable, KeyIsNoTable, Refused}
use Rattle.manifests.specs.declared.tables.Kind.{Kind}
use Rattle.manifests.specs.declared.tables.Kind.TheVariants.{Normal, Development, Build}

-- ---- the query

-- a target by its name and the knowledge about its facts, and the host, if it is known
pub record Question : Type 0 where
  pub target : List ℕ
  pub told : Pair → Option Bool
  pub host : Option KnownTarget

abbrev pub question_of : List ℕ → TargetFacts → Option KnownTarget → Question
question_of target known host = record {
  target = target;
  told = facts_told (fact_set (map value_of known.facts.now)) (fact_set (map value_of known.added.now))
      (map (λ t. t.now) known.open.now);
  host = host;
}

abbrev pub question_in : Query → Question
question_in q = question_of q.target.now q.known.now q.host

-- ---- the decision of a dependency

-- all facts of the host are known; without a known host, the condition is left as it is
abbrev pub IsHostDecision : Option KnownTarget → Condition → Decision → Type 0
IsHostDecision (Some host) c decision =
    IsDecisionBy (target_name (place host)) (λ p. Some (contains (target_facts (place host)) p)) c decision
IsHostDecision None c decision = (decided_truth decision ≡ None) × IfOpen decision (λ rest. rest ≡ c)

-- the condition of a build-dependency is decided for the host, and any other for the target
abbrev pub IsDecisionFor : Question → Kind → Condition → Decision → Type 0
IsDecisionFor q Normal c decision = IsDecisionBy q.target q.told c decision
IsDecisionFor q Development c decision = IsDecisionBy q.target q.told c decision
IsDecisionFor q Build c decision = IsHostDecision q.host c decision

-- ---- the rows

-- a dependency, and its decision
abbrev pub ChosenRow : Type 0
ChosenRow = DependencyRow × Decision

abbrev pub chosen_of : DependencyDecision → ChosenRow
chosen_of r = (row_of r.dependency, r.decision)

-- outside `target` each dependency is selected
abbrev pub selected : DependencyRow → ChosenRow
selected d = (d, Selected)

-- the rows are those of these dependencies, in order, each with its decision
pub record AreChosen (q : Question) (c : Condition) (ds : List DependencyRow) (rows : List ChosenRow) : Type 0 where
  pub dependencies : map (λ r. r.0) rows ≡ ds
  pub decisions : All (λ r. IsDecisionFor q r.0.kind c r.1) rows

-- a key that is a condition, and whose value is a table
pub record IsReadKey (e : Entry) : Type 0 where
  pub condition : Condition
  pub spelled : IsConditionText e.0 condition
  pub table : Members
  pub at_table : as_table e.1 ≡ Some table

-- the rows of a key are those of its table, by its condition
pub record AreRowsOfKey (q : Question) (e : Entry) (rows : List ChosenRow) : Type 0 where
  pub read : IsReadKey e
  pub chosen : AreChosen q read.condition (rows_of (Some e.0) read.table) rows

-- the rows of some keys are those of each, in the order of the keys
pub data AreRowsOfKeys (q : Question) : List Entry → List ChosenRow → Type 0 where
  of_none : AreRowsOfKeys q [] []
  of_more : (es : List Entry) (e : Entry) (before rows : List ChosenRow) → AreRowsOfKeys q es before
      → AreRowsOfKey q e rows → AreRowsOfKeys q (es ++ e ∷ []) (before ++ rows)

-- by the value of `target`: without one there are no rows, for a table they are those of its keys, and anything else is
-- rejected
abbrev pub AreRowsUnder : Question → Option (Option (List Entry)) → List ChosenRow → Type 0
AreRowsUnder q None rows = rows ≡ []
AreRowsUnder q (Some None) rows = ⊥
AreRowsUnder q (Some (Some es)) rows = AreRowsOfKeys q es rows

-- the rows of a manifest: those of the dependencies outside `target`, followed by those of its keys
pub record AreRows (q : Question) (manifest : Members) (rows : List ChosenRow) : Type 0 where
  pub under : List ChosenRow
  pub are : rows ≡ map selected (rows_of None manifest) ++ under
  pub are_under : AreRowsUnder q (target_of manifest) under

-- such rows follow the old ones, and nothing else
pub record Adds (P : List ChosenRow → Type 0) (old new : List DependencyDecision) : Type 0 where
  pub added : List ChosenRow
  pub are : map chosen_of new ≡ map chosen_of old ++ added
  pub such : P added

-- ---- why there are no rows

-- the key is this one, which is a condition, and its value is not a table
pub record IsNoTableKey (key : List ℕ) (e : Entry) : Type 0 where
  pub this : e.0 ≡ key
  pub condition : Condition
  pub spelled : IsConditionText key condition
  pub no_table : as_table e.1 ≡ None

-- the key is this one, which is not a condition, with this error at its position
pub record IsRefusedKey (key : List ℕ) (error : ParseError) (e : Entry) : Type 0 where
  pub this : e.0 ≡ key
  pub nothing : (c : Condition) → IsConditionText key c → ⊥
  pub fault : IsRefusedConditionAt key (orig_of error) (fault_in error) (span_in error)

-- what an error says of the key that it is about
abbrev pub IsErrorOn : Entry → SelectError → Type 0
IsErrorOn e (Memory error) = Unit {0}
IsErrorOn e TargetIsNoTable = ⊥
IsErrorOn e (KeyIsNoTable key) = IsNoTableKey key.now e
IsErrorOn e (Refused key error) = IsRefusedKey key.now error e

-- `target` is a table; P holds for the first of its keys that is not accepted
pub record OfFirstUnread (target : Option (Option (List Entry))) (P : Entry → Type 0) : Type 0 where
  pub before : List Entry
  pub key : Entry
  pub after : List Entry
  pub at_target : target ≡ Some (Some (before ++ key ∷ after))
  pub read : All IsReadKey before
  pub holds : P key

-- what an error says of the value of `target`; nothing is said of memory
abbrev pub IsErrorUnder : Option (Option (List Entry)) → SelectError → Type 0
IsErrorUnder target (Memory error) = Unit {0}
IsErrorUnder target TargetIsNoTable = target ≡ Some None
IsErrorUnder target (KeyIsNoTable key) = OfFirstUnread target (IsNoTableKey key.now)
IsErrorUnder target (Refused key error) = OfFirstUnread target (IsRefusedKey key.now error)
