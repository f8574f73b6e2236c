pub mod Capped
pub mod Found
pub mod Lexing
pub mod Lines
pub mod Means
pub mod Files
pub mod Kinds
