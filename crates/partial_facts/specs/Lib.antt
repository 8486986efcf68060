pub mod Kleene
pub mod KleeneLaws
pub mod Partly
pub mod OneValued
pub mod Residual
pub mod Conditions
pub mod Inside
