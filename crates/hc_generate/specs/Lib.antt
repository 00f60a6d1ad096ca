pub mod Draws
pub mod Lines
pub mod Run
pub mod Script
pub mod Sessions
pub mod Summary
