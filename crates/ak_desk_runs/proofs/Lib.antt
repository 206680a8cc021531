mod Going
mod LineStopping
mod Opened
