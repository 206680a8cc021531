pub mod Numbered
pub mod OpeningHeads
pub mod OpeningLaws
pub mod OpeningRows
pub mod ServersRows
