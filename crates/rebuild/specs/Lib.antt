pub mod Failures
pub mod Fronts
