pub mod Shallow
