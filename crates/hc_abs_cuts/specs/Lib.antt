pub mod Cuts
pub mod Exact
pub mod Coded
