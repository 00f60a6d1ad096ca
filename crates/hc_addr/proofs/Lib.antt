pub mod Common
pub mod Digits
pub mod Gaps
pub mod Joined
pub mod Powers
pub mod Rows
pub mod ReadBack
