mod Failing
pub mod Held
pub mod Holding
pub mod InTime
pub mod NewReviews
pub mod Places
pub mod Placing
mod Planning
pub mod ReviewEdits
pub mod TableTexts
pub mod WholeHeads
