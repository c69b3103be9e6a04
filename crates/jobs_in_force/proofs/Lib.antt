pub mod TargetLemmas
pub mod IndexLemmas
pub mod FewLemmas
pub mod ListedLemmas
pub mod SharingLemmas
