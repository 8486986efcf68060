pub mod Identifiers
pub mod Nearest
