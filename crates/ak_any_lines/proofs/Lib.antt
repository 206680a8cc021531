pub mod CalledEnds
pub mod FirstLines
pub mod LineSeries
