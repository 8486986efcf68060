pub mod OneDepth
pub mod Taking
