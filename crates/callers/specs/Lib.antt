pub mod Audit
pub mod OwnError
pub mod Reports
pub mod Underline
pub mod Audits
pub mod Counted
pub mod Shipped
pub mod Targets
