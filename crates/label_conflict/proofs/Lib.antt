pub mod FreeLemmas
pub mod OrderLemmas
pub mod JoinLemmas
pub mod BorrowedLemmas
pub mod MergeLemmas
pub mod NameLemmas
pub mod SortLemmas
