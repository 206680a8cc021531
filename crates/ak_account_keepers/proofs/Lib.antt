pub mod OpenedLists
pub mod ReadFiles
