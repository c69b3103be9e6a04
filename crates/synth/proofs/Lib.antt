pub mod PageLemmas
pub mod OrderLemmas
pub mod VersionLemmas
