pub mod Tiles
pub mod Answers
pub mod Law
