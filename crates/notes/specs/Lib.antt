pub mod Missing
pub mod Words
pub mod Notes
pub mod Noting
pub mod Telling
