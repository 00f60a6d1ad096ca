pub mod Editing
mod Ending
mod Cutting
mod Joins
mod Keeping
pub mod Pieces
mod Touching
mod Trimming
mod Walking
