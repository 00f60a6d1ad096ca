pub mod Include
pub mod Lines
pub mod Ending
pub mod Flat
pub mod Override
pub mod Counting
pub mod Laws
