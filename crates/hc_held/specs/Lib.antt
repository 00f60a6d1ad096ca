pub mod Claims
pub mod Verdicts
