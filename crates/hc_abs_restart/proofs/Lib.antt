pub mod Answering
pub mod Common
pub mod Following
pub mod Renaming
pub mod Sets
