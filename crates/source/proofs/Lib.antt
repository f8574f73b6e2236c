pub mod Asking
pub mod Cuts
pub mod Ones
pub mod Stripping
pub mod Verdicts
