pub mod Leaves
pub mod Meeting
pub mod One
