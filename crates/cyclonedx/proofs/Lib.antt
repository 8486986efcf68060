pub mod Escapes
pub mod Relating
