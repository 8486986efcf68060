-- Rows: a table, whatever its place in memory, and the blocks of lines that it is read from
pub mod Rows
-- Refusals: the first line for which a text is refused
pub mod Refusals
-- Blocks: for private functions, the beginning of lines
pub mod Blocks
-- Added: the known targets, and a target that is added to a table
pub mod Added
