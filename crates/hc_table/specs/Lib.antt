pub mod Contexts
pub mod Directives
pub mod Flags
pub mod Options
pub mod Table
pub mod Variables
