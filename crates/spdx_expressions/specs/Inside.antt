-- Definitions for the contracts of private functions. No promise depends on them.
--
-- Reading: the reader, token by token
pub mod Reading
-- Walking: the truth of an expression, part by part
pub mod Walking
-- Single: the reader of one licence
pub mod Single
