pub mod ReadBehind
pub mod UpTo
pub mod Unclosed
pub mod Runs
pub mod LookingUp
pub mod Cutting
