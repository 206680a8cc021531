pub mod Checksums
pub mod SortTexts
pub mod Generation
