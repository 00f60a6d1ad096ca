pub mod Edit
pub mod Places
pub mod Runs
