-- Definitions for the contracts of private functions and types. No promise depends on them. Each module uses those
-- before it.

-- ---- reading
-- Looking: what a look at a position of a text finds, and the cost of looks
pub mod Looking
-- Scanning: what the parts of a tokenizer find in the text
pub mod Scanning
-- Ahead: what is ahead of a reader, and how it moves from one token to the next
pub mod Ahead
-- Refusals: the error that reports a refusal
pub mod Refusals
-- Parsing: what a reader takes and refuses
pub mod Parsing
-- Matching: what an expression that is evaluated while it is read has come to
pub mod Matching
-- ---- spans
-- LineStarts: the rest of a text from a line on
pub mod LineStarts
-- FurtherSpans: spans that are moved into a larger text
pub mod FurtherSpans
-- ---- trees
-- Asking: whether an expression or its negation is evaluated, and how queries are counted
pub mod Asking
-- Folding: the groups around an expression that is folded, the whole that they make, and the work that is left
pub mod Folding
-- Copying: the whole that a copy is part of
pub mod Copying
-- Printing: how an expression is written, and the parentheses that end it
pub mod Printing
