pub mod Categories
pub mod Rules
pub mod Had
pub mod NoValue
