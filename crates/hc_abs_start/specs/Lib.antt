pub mod Sets
pub mod Starting
pub mod Starts
