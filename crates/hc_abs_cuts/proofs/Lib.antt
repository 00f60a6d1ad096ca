pub mod Common
pub mod Named
pub mod Naming
pub mod Placing
pub mod Forcing
pub mod Going
