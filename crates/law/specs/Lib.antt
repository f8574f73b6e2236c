pub mod Positions
pub mod Steps
pub mod Turns
pub mod Leftover
pub mod Opening
pub mod Life
pub mod Law
pub mod Worked
