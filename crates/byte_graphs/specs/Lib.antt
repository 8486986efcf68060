pub mod Documents
pub mod Inside
