-- A map's clauses speak of keys as the code has them (`Vec`), the model of lists of bytes: Lookups leads from
-- one to the other, for the entries (Worlds) and for the rows of changes (Rows). What is made makes a look grow
-- (`Grows`, Grown), so that no step undoes another; what is taken away is marked as a whole (Drops). Names go
-- from place to place: those in all keys from a place are the name of the key found, and those from the next
-- place (specs/Places, Places). To undo an insert: `remove_inserted`. A front of a path and what follows it:
-- `passed_all`, `passed_some` (Slashes). A walk by steps: Walks, whose rule set names the goals that a `?` in
-- its loop leaves.
mod Ascending
mod Below
mod Counted
mod Drops
mod Grown
mod Lookups
mod Order
mod Parents
mod Pieces
mod Places
mod Rows
mod Slashes
mod Worlds
mod Walks
pub mod Common
pub mod Listed
