pub mod OfFaults
pub mod OfSpares
pub mod OfShapes
pub mod OfListings
pub mod OfChecks
pub mod OfPgm
