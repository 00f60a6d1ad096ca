pub mod Beginning
pub mod Behind
pub mod Common
pub mod Ruling
pub mod Siding
