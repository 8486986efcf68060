-- The definitions that the contracts cite.
pub mod Purls
pub mod Serials
pub mod Locks
pub mod Relations
pub mod Laws
