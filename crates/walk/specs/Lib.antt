pub mod Lines
pub mod Counts
pub mod Passing
pub mod Finding
pub mod Lying
pub mod Walking
