pub mod Asking
pub mod Components
pub mod Forcing
pub mod Laws
pub mod Marking
pub mod Merging
pub mod Steps
