pub mod Logical
pub mod Run
pub mod Words
pub mod WordsView
