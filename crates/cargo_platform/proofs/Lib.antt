-- The lemmas by subject. Each subject uses those before it. Answers to the goals of a function are in the folder
-- of its source file.

-- ---- text and tokens
-- Looking: the character at a position
pub mod Looking
-- Scanning: from bytes to the words of the cut
pub mod Scanning
-- Lanes: sixteen bytes at once
pub mod Lanes
-- LexicalFaults: a text begins at most one lexical fault
pub mod LexicalFaults
-- OneCut: only one item comes at a position, so a text has at most one cut
pub mod OneCut
-- SomeCut: each text has one
pub mod SomeCut
-- Paths: what comes next, after tokens of the cut and along a reader's path
pub mod Paths
-- Runs: calls of `next` return the cut, and nothing after it
pub mod Runs
-- CutTests: a test of cuts that computes, for worked rows
mod CutTests
-- OpenParens: how many parentheses are open, and the groups of a tree
pub mod OpenParens
-- ---- grammar
-- Roles: what an identifier is in an expression
pub mod Roles
-- TreeViews: the tree of a value, form by form
pub mod TreeViews
-- Walk: the states that tokens lead to
pub mod Walk
-- Building: what spells a tree leads to it
pub mod Building
-- Positions: what leads to a tree spells it
pub mod Positions
-- OneText: tokens spell at most one thing
pub mod OneText
-- WellFormedness: and only well-formed ones
pub mod WellFormedness
-- ---- faults
-- Completing: what is walked can be completed
pub mod Completing
-- Expecting: what is expected after it
pub mod Expecting
-- Completable: lists that can be completed
pub mod Completable
-- Prefixes: the longest such prefix
pub mod Prefixes
-- Refused: a text with a fault spells nothing
pub mod Refused
-- OneFault: it has at most one
pub mod OneFault
-- SomeFault: and one if it spells nothing
pub mod SomeFault
-- Spans: the places of faults
pub mod Spans
-- AroundSpans: what is around a span
pub mod AroundSpans
-- Snippets: the lines of a snippet
pub mod Snippets
-- ---- the readers
-- Coming: what comes at a position, from the bytes there
pub mod Coming
-- Parsing: a reader of expressions, step by step
pub mod Parsing
-- Refusing: where it stops is the first fault
pub mod Refusing
-- ReaderAnswers: the results of a reader
pub mod ReaderAnswers
-- ---- printing
-- Printing: a print grows piece by piece
pub mod Printing
-- PrintedSpells: the printed text of a well-formed tree spells it
pub mod PrintedSpells
-- ---- conditions
-- TargetNames: the characters of a target's name
pub mod TargetNames
-- Conditions: a text spells at most one condition
pub mod Conditions
-- ConditionFaults: a text that spells no condition has one fault
pub mod ConditionFaults
-- ConditionSpans: the place of that fault
pub mod ConditionSpans
-- TextLaws: the laws of texts, for each grammar
pub mod TextLaws
-- ConditionAnswers: the results for conditions, case by case
pub mod ConditionAnswers
-- Changes: what the grammar changed
pub mod Changes
-- ToToday: from the Rust crate's grammar to today's
pub mod ToToday
-- AfterLiterals: where today's fault is, and what the Rust crate's grammar has there
pub mod AfterLiterals
-- ---- keys
-- KeySpans: where an error's text is in a key
pub mod KeySpans
-- FoundInKeys: the span is in the key
pub mod FoundInKeys
-- ---- facts
-- FactSets: the set of a list
pub mod FactSets
-- FactTruths: truth as facts change
pub mod FactTruths
-- Members: the members of a group as a list
pub mod Members
-- LastMembers: what depends on the last one alone
pub mod LastMembers
-- Lines: lines, and the parts between newlines
pub mod Lines
-- TextLines: the lines are these parts
pub mod TextLines
-- LineStarts: where lines begin
pub mod LineStarts
-- FactLines: lines that spell facts
pub mod FactLines
-- FoundInFacts: the span of a refused line is in the text
pub mod FoundInFacts
-- NameLengths: names of unequal lengths are unequal
pub mod NameLengths
-- TextPlaces: texts keep their places when others are appended
pub mod TextPlaces
-- HashOrder: the orders of an index are total, and tie where facts are equal
pub mod HashOrder
-- Halving: a search goes on in one half
pub mod Halving
-- FactIndexes: an index represents the set of its list
pub mod FactIndexes
-- Holders: sets of user-defined holders
pub mod Holders
-- Evaluating: an expression that is evaluated while it is read
pub mod Evaluating
-- ---- values and warnings
-- Texts: equality of texts beside their order
pub mod Texts
-- WarningWalks: warnings are appended, and removed again on failure
pub mod WarningWalks
-- ---- for callers
-- OnLiterals: what a text that is written out spells, or why it is refused
pub mod OnLiterals
-- ---- worked rows
-- Rows: definitions on single cases; no proof depends on them
mod Rows
