pub mod TransferRuns
