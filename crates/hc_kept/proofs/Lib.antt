pub mod Current
pub mod Entries
pub mod Fresh
pub mod Joining
pub mod Loaded
pub mod Standing
