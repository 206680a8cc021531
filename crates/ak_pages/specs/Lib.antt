pub mod CardFaces
pub mod CardPages
