pub mod Sets
pub mod Ghosts
pub mod Made
