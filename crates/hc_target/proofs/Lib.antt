pub mod Common
pub mod Escaping
pub mod Normal
pub mod Placing
pub mod Queries
pub mod ReadBack
pub mod Leading
