pub mod Arrived
pub mod Behind
pub mod Forced
pub mod Reading
pub mod Walked
