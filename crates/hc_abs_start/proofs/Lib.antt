pub mod Beginning
pub mod Members
pub mod Printing
pub mod Products
pub mod Puts
pub mod Spots
