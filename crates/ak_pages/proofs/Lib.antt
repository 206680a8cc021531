pub mod CheckedOrds
pub mod Joining
pub mod Sides
pub mod ToldCards
