pub mod Common
pub mod Counting
pub mod Ending
pub mod Texts
pub mod Whole
