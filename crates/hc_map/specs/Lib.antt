pub mod Gathered
pub mod Images
pub mod Maps
pub mod Searching
