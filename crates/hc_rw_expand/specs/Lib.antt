pub mod Contexts
pub mod Groups
pub mod Kept
pub mod Variables
pub mod Values
pub mod Lookups
pub mod Queries
pub mod LookReads
