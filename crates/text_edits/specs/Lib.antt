-- The definitions that the contracts cite.
pub mod Edits
pub mod Laws
