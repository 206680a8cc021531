pub mod Statuses
pub mod TransferEnds
