pub mod StepLemmas
pub mod OneLemmas
pub mod RunLemmas
pub mod SharingLemmas
