pub mod Consistency
pub mod Covering
pub mod Loading
