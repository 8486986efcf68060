-- The definitions. Each module uses those before it. For `CfgExpr::from_str` read Chars, Tokens, Cut, Trees, Spelling,
-- Faults, Print, Errors and WellFormed; for `matches` Trees and Facts; for `Display` Tokens, Trees and Print. The
-- contracts are in src: cfg.rt (facts, expressions, looks), platforms.rt, fact_lines.rt, facts.rt (matching) and
-- warnings.rt.

-- ---- text and tokens
-- Chars: classes of characters
pub mod Chars
-- Tokens: the tokens, and how each is written
pub mod Tokens
-- Cut: what comes next in a text, which is a token or a lexical fault, and how the text is cut into tokens
pub mod Cut
-- Reading: one call of `next` after another, with its looks
pub mod Reading
-- CutLaws: each text has one cut, and the tokenizer returns it
pub mod CutLaws
-- ---- trees
-- Trees: names, pairs, expressions and conditions, whatever their place in memory
pub mod Trees
-- ViewLaws: the tree of a value is determined form by form
pub mod ViewLaws
-- Sizes: how large and how deep a tree is
pub mod Sizes
-- ExpressionSizes: the number of expressions in an expression
pub mod ExpressionSizes
-- Parts: the expression that parts make up
pub mod Parts
-- ---- grammar
-- Spelling: which tokens spell which tree
pub mod Spelling
-- Nesting: how deeply the groups of a text are nested
pub mod Nesting
-- ---- faults
-- Faults: why a text is refused, what is expected, and the span of each fault, except for target names
pub mod Faults
-- Walk: the automaton of both grammars, its positions, and the states that laws name, for proofs
pub mod Walk
-- FaultLaws: laws of completion and of the fault prefix
pub mod FaultLaws
-- ---- printing
-- Print: the printed text of every tree and fault
pub mod Print
-- Errors: what an error says, whatever its place in memory
pub mod Errors
-- Snippets: two lines that show the place of a fault
pub mod Snippets
-- ---- conditions
-- Platforms: target names, the text of a condition, and the fault and span of a refused name
pub mod Platforms
-- WellFormed: the values that a text can spell
pub mod WellFormed
-- GrammarLaws: tokens spell at most one thing
pub mod GrammarLaws
-- TextLaws: a text either spells something or has a fault
pub mod TextLaws
-- KeySpans: the place of a fault in the key of a manifest
pub mod KeySpans
-- Json: conditions as JSON strings
pub mod Json
-- Earlier: the earlier grammars
pub mod Earlier
-- ---- matching
-- Facts: sets of facts, and truth over such a set
pub mod Facts
-- Asks: the number of queries to a holder of facts
pub mod Asks
-- FactLaws: what truth depends on
pub mod FactLaws
-- Holders: names for the sets that user-defined holders represent
pub mod Holders
-- ---- lines of facts
-- Lines: the lines of a text, which end at U+000A alone, so that a carriage return is part of a line
pub mod Lines
-- FactLines: facts, one on each line; none is skipped
pub mod FactLines
-- SpanLaws: laws of the text around a span, and of spans in lines of facts
pub mod SpanLaws
-- ---- equality, order and hash
-- Key: what is compared of a value: everything but the raw marks
pub mod Key
-- OrderLaws: the order of keys is total
pub mod OrderLaws
-- Hashing: the input of a hasher
pub mod Hashing
-- ---- an index of facts
-- Places: texts in one string, their places there, and the order in which an index keeps them
pub mod Places
-- FactIndexes: the facts that an index keeps
pub mod FactIndexes
-- ---- warnings
-- Warnings: the values of a tree, and the warnings about them
pub mod Warnings
-- ChangeLaws: the changes of the grammar
pub mod ChangeLaws
-- ---- for private functions
-- Inside: definitions for their contracts, on which no promise depends
pub mod Inside
