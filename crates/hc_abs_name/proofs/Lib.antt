pub mod Clients
pub mod Common
pub mod Forcing
pub mod Joining
pub mod Refusing
pub mod Walking
