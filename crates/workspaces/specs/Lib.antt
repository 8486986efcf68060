pub mod Documents
pub mod Stretches
pub mod Rows
pub mod Globs
pub mod Members
