pub mod Common
pub mod Looking
pub mod Places
pub mod Slots
pub mod Variables
