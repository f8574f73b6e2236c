pub mod Listings
pub mod Shown
pub mod Texts
pub mod Lengths
