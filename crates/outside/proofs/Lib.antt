mod ClockLemmas
mod ReplyLemmas
pub mod SharingLemmas
