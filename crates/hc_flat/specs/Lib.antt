pub mod EntriesView
pub mod Lent
