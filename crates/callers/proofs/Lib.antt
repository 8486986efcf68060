pub mod Keys
pub mod Reports
pub mod SameKeys
