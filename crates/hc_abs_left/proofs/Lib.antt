pub mod Common
pub mod Framing
pub mod Leaving
pub mod Rounding
