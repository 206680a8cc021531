pub mod Files
pub mod Images
pub mod Gates
pub mod Runs
pub mod Results
