pub mod Cutting
pub mod Facts
pub mod OneAnswer
pub mod Outputs
pub mod SomeAnswer
pub mod Truths
