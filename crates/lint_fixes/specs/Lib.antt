-- The definitions that the contracts cite.
pub mod Sameness
pub mod Names
pub mod Fixing
