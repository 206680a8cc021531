pub mod NoServers
pub mod Retries
pub mod SyncRuns
