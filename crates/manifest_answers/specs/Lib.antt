pub mod Deep
pub mod Laws
