pub mod Cells
pub mod Conditions
pub mod Checking
pub mod Coded
pub mod Holding
pub mod Claims
