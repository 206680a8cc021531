pub mod KeptCollections
pub mod LabEnds
pub mod Telling
