pub mod Runs
pub mod Rebuilding
pub mod Worker
pub mod Alone
