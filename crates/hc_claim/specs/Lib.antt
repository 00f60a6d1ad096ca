pub mod Asking
pub mod Bad
pub mod Ending
pub mod Judging
pub mod Walking
pub mod Deciding
pub mod Holding
pub mod Trying
