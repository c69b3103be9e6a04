pub mod DistinctLemmas
pub mod OverlayLemmas
pub mod WalkLemmas
pub mod RequestLemmas
pub mod ValueLemmas
pub mod SharingLemmas
