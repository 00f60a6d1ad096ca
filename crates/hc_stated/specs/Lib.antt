pub mod CellViews
pub mod Cells
pub mod Shapes
pub mod Stated
pub mod Views
