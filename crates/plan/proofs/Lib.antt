pub mod Leading
pub mod Adding
pub mod Calls
pub mod Cells
pub mod Enough
pub mod Lawful
pub mod Layouts
pub mod Making
pub mod Reaching
pub mod Shows
pub mod Taking
pub mod Verdicts
pub mod Wrong
mod Starts
