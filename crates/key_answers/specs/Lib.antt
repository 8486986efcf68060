pub mod JsonLines
pub mod Printing
