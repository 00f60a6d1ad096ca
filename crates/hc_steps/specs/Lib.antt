pub mod Laws
pub mod Order
pub mod Ran
pub mod Run
pub mod Shown
pub mod Step
pub mod Told
pub mod Walking
