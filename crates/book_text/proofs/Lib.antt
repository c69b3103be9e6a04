pub mod PlaceLemmas
pub mod FlowLemmas
pub mod BookLemmas
pub mod RoomLemmas
pub mod SummaryLemmas
pub mod KeptLemmas
