pub mod Questions
pub mod Racks
pub mod Strips
