pub mod Days
pub mod MadeServers
pub mod MakeLines
pub mod Measures
