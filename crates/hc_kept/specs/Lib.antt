pub mod Files
pub mod Entries
pub mod Keys
pub mod Site
