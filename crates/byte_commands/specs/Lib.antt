pub mod Answers
pub mod CallInput
