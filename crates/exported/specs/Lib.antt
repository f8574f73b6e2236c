pub mod Reading
pub mod Rebuilding
pub mod Told
