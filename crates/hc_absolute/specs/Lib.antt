pub mod Absolute
