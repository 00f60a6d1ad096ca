pub mod Cuts
pub mod Fronts
pub mod Joins
pub mod Made
pub mod Naming
pub mod Ports
pub mod Roots
pub mod Schemes
