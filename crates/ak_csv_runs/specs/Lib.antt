pub mod ExportRuns
pub mod FileRuns
pub mod ImportRuns
pub mod ImportTexts
