pub mod Tests
pub mod FoundView
pub mod Filling
pub mod Locations
pub mod Mapping
pub mod ServersView
