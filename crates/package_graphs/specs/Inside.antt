pub mod Spreading
pub mod Numbered
pub mod Searching
