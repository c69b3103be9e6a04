pub mod SharingLemmas
