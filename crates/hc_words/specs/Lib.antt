pub mod Decimal
pub mod Words
