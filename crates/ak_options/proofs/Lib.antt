pub mod Adding
pub mod AdmittedEdits
pub mod Changing
pub mod Defaults
pub mod Deleting
pub mod Spreading
