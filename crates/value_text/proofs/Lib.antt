pub mod DigitLemmas
pub mod DurationLemmas
pub mod GrammarLemmas
pub mod NumberLemmas
pub mod ValueLemmas
pub mod SharingLemmas
