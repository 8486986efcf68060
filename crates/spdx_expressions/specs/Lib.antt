-- The definitions. Each module uses those before it.
--
-- Tokens: the tokens of a text, and their positions
pub mod Tokens
-- Words: which words are operators, identifiers and names of licences
pub mod Words
-- Trees: licences, parts and trees, whatever their place in memory
pub mod Trees
-- Grammar: which tokens spell which tree
pub mod Grammar
-- Faults: why a text is refused
pub mod Faults
-- Errors: statements about a refusal
pub mod Errors
-- Allowed: which licences a list allows, and the truth of a tree
pub mod Allowed
-- Print: the printed text
pub mod Print
-- Laws: consequences of the definitions
pub mod Laws
-- ---- for private functions
-- Inside: definitions for their contracts, on which no promise depends
pub mod Inside
