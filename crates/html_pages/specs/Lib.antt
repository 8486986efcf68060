pub mod Escaping
pub mod Laws
