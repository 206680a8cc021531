pub mod Exporting
pub mod RecordRules
pub mod Returning
pub mod TextSets
pub mod Writing
