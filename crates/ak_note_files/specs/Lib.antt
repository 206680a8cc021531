pub mod Exports
pub mod Imports
pub mod Inputs
pub mod Returns
pub mod Rules
