pub mod Elements
pub mod Refused
pub mod Indexing
pub mod Adding
