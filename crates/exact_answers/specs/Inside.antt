-- What the contracts of private functions and types cite, and no promise rests on.
pub mod Making
pub mod Paths
pub mod Searches
pub mod Ahead
pub mod Targets
pub mod Opening
