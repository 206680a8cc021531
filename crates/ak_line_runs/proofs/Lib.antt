pub mod Going
mod Pieces
mod Printing
pub mod Stopping
mod Texts
