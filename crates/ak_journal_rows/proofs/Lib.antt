pub mod Found
pub mod Listing
pub mod Ascending
pub mod TagObjects
pub mod Nesting
pub mod OneChange
pub mod Folds
pub mod Walks
