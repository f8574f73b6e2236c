pub mod Turns
pub mod Endings
mod Alone
