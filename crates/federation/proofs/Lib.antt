pub mod RowLemmas
pub mod MergeLemmas
pub mod FederationLemmas
pub mod NumberLemmas
pub mod FeedLemmas
pub mod LabelLemmas
pub mod ReadingLemmas
