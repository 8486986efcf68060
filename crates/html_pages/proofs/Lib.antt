pub mod Written
pub mod Meaning
