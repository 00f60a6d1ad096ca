pub mod Attempting
pub mod Lengths
pub mod Listing
pub mod Placing
pub mod Staying
pub mod Steps
pub mod Templates
