pub mod Counting
pub mod Incidence
pub mod Steps
pub mod History
pub mod Law
