pub mod PushLemmas
pub mod SharingLemmas
