pub mod Names
pub mod Links
pub mod Keys
pub mod Newly
