pub mod Gathering
pub mod Named
