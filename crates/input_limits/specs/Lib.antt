pub mod Limits
pub mod Laws
pub mod Refusals
pub mod Marks
