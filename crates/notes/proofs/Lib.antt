pub mod Counted
pub mod Most
pub mod Tables
pub mod Telling
pub mod Found
