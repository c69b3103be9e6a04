pub mod Replies
pub mod Texts
pub mod Tracked
pub mod Shown
pub mod Entries
pub mod Closings
pub mod Fresh
pub mod Raw
