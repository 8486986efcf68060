pub mod Steps
pub mod RowSteps
pub mod Without
