pub mod Closes
pub mod NodeView
pub mod Openings
pub mod Sections
pub mod Tree
