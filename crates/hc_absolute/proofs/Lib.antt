pub mod Targets
pub mod Standing
pub mod Judging
pub mod Built
