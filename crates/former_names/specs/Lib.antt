pub mod Releases
pub mod Rows
pub mod Verdicts
pub mod Laws
