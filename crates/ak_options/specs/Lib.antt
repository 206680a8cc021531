pub mod OptionDeletions
pub mod OptionGroups
pub mod Spreads
