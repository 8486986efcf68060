pub mod JsonLines
pub mod Reasons
