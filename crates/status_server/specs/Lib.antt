pub mod Replies
pub mod Targets
pub mod Answers
pub mod Reloads
pub mod Federates
pub mod Connections
pub mod Steps
pub mod Serving
