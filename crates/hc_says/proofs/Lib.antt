pub mod Known
pub mod Replacing
