pub mod NumberLemmas
pub mod LineLemmas
pub mod EventLemmas
pub mod JournalLemmas
pub mod ReadingLemmas
pub mod SharingLemmas
