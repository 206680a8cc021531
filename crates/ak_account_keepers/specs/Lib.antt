pub mod Files
pub mod Makers
pub mod OpenedAccounts
