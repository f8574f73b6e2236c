pub mod Bounds
pub mod Equal
pub mod Euclid
pub mod Products
pub mod Fewness
pub mod TenBits
