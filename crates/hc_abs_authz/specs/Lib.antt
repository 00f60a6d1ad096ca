pub mod Admitting
pub mod Asking
pub mod Clients
pub mod Leaves
pub mod Methods
pub mod Ways
