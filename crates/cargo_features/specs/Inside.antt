pub mod Listing
pub mod Working
pub mod Numbered
pub mod Exact
