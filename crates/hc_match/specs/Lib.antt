pub mod Settings
pub mod Single
pub mod Frames
pub mod Runs
pub mod Program
pub mod Failures
pub mod Pairs
