pub mod ImportEnds
