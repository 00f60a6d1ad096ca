pub mod Forms
pub mod Joinings
pub mod Sets
