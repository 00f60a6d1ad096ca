pub mod Floats
pub mod Going
pub mod Ordered
