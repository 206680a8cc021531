pub mod Clozes
pub mod Grammar
pub mod Pieces
pub mod Trees
pub mod Pages
pub mod Laws
