pub mod LintLevels
pub mod LevelLaws
