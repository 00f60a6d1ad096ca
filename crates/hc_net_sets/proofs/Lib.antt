pub mod Bits
pub mod Common
pub mod Powers
pub mod Numbers
pub mod Pieces
pub mod Values
pub mod Gaps
pub mod Unions
