pub mod Buffers
pub mod Outcomes
pub mod Calls
pub mod Loads
pub mod Seals
pub mod Worlds
pub mod Lives
pub mod Ring
