pub mod Escapes
pub mod Segments
pub mod Targets
pub mod Urls
