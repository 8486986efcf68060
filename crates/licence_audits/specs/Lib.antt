pub mod Findings
pub mod Exceptions
pub mod Uses
pub mod Audits
