pub mod Accounts
pub mod Servers
pub mod Serving
