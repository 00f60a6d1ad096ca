pub mod Cells
pub mod Containing
pub mod Slots
pub mod Ties
