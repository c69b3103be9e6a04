pub mod LimitLemmas
pub mod SharingLemmas
