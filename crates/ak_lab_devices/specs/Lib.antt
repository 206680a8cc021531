pub mod Devices
pub mod NewReviews
pub mod Plans
pub mod RestingKeepers
pub mod ReviewChanges
pub mod Shows
