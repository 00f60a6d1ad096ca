pub mod Digits
pub mod Marks
pub mod Networks
pub mod Sought
pub mod Same
pub mod Rows
pub mod Unions
