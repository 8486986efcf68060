pub mod Fronts
pub mod Places
pub mod Growing
pub mod KnownRows
