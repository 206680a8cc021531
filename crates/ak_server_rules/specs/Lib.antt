pub mod Decisions
pub mod Laws
pub mod Serving
pub mod Sessions
pub mod Summaries
