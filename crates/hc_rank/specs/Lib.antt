pub mod Ranks
pub mod Sets
pub mod Laws
