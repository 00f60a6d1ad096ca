pub mod Some
pub mod Fitting
pub mod Following
pub mod Nodes
pub mod Growing
