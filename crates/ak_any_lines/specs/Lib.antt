pub mod AnyEnds
pub mod FilteredCalls
pub mod FirstThings
pub mod LineResults
pub mod LineSeries
