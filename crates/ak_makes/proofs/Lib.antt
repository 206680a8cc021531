pub mod DayEdits
pub mod DeviceSyncs
pub mod Lines
pub mod MeasuredParts
pub mod ServerCopies
