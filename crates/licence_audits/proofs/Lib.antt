pub mod Auditing
pub mod Naming
