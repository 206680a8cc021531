pub mod Columns
pub mod Fitting
pub mod Marks
pub mod OneReading
pub mod ReadAgain
pub mod Rules
pub mod Words
