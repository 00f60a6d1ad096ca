pub mod Names
pub mod NamesView
pub mod Servers
pub mod Choice
