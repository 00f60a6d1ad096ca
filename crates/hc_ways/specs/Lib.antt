pub mod Ways
pub mod Kept
pub mod Laws
pub mod Taking
