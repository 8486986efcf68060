pub mod Members
pub mod NameMaps
pub mod Renaming
pub mod GivenNames
pub mod Replaced
