pub mod Reaching
pub mod Graphs
pub mod Kinds
pub mod Packages
pub mod Following
pub mod Paths
pub mod Inside
