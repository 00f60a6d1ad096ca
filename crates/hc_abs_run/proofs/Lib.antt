pub mod Common
pub mod Past
pub mod Placing
pub mod Resting
pub mod Starting
