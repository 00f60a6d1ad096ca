pub mod Pieces
pub mod MapNames
pub mod Variables
pub mod Reading
pub mod Filled
pub mod SeenView
pub mod ViewFilling
pub mod Fronts
