pub mod Forms
pub mod Tries
pub mod Wires
