-- Definitions for the contracts of private functions and types. No promise depends on them.
pub mod Groups
pub mod Reducing
