pub mod Arriving
pub mod Bytes
