pub mod Digits
pub mod Loops
pub mod Codings
pub mod Sums
pub mod Totals
