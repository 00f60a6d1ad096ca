pub mod Places
pub mod Networks
pub mod Gathering
pub mod Closing
pub mod Behind
pub mod Smallest
