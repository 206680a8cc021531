pub mod Told
pub mod Moments
pub mod Orders
pub mod Commits
pub mod Marks
pub mod Filling
pub mod ReadFiles
