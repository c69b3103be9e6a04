pub mod CountLemmas
pub mod ForcedLemmas
pub mod FreshLemmas
pub mod ReplyLemmas
pub mod RightLemmas
pub mod ShownLemmas
pub mod SettleLemmas
pub mod TextLemmas
pub mod SharingLemmas
pub mod RawLemmas
mod SizeLemmas
