mod Alone
mod Calling
pub mod Carrying
mod Copying
mod Failing
pub mod Growing
mod InARow
pub mod Logging
mod Losing
mod Served
mod Troubles
mod Viewing
