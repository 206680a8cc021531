pub mod LinesRead
pub mod LinesWritten
pub mod Negatives
pub mod Ranges
pub mod WordsRead
