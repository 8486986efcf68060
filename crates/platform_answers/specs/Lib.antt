pub mod Counts
pub mod Reading
pub mod Writing
pub mod Lines
pub mod Printing
pub mod Answering
pub mod Running
pub mod Laws
