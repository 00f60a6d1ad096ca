pub mod Next
pub mod Chains
