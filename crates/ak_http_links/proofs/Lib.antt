pub mod TextWrites
pub mod BodyReads
pub mod Readings
pub mod Answering
pub mod Isolated
pub mod OneReading
