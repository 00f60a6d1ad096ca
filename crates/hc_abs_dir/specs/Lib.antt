pub mod Begun
pub mod Behind
pub mod Forced
pub mod Sides
