pub mod Stepping
pub mod Lexemes
pub mod Texts
pub mod Written
pub mod Chosen
