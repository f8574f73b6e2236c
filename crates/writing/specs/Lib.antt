pub mod Splices
pub mod Writers
pub mod Lines
pub mod Files
pub mod ReadBack
