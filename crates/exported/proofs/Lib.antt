pub mod Asked
pub mod Beyond
pub mod Loads
pub mod Refusals
mod Lent
