pub mod Choosing
pub mod Following
pub mod Restarted
pub mod Starting
