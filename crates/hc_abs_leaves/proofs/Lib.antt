pub mod Common
pub mod Stacks
pub mod Heights
pub mod Fewer
pub mod Nexts
pub mod Places
pub mod Growth
