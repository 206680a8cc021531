pub mod LabLines
pub mod LabTexts
pub mod Reading
pub mod Written
