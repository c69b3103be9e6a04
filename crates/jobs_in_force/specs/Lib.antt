pub mod TargetWords
pub mod Settings
pub mod Jobs
pub mod Listed
