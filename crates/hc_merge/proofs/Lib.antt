pub mod Merging
pub mod Loading
pub mod Chains
pub mod Along
