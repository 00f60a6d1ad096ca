pub mod Reading
pub mod Pairs
pub mod Loading
