-- Classes of bytes behind the full table: a struct whose view is the full table, so that no contract and
-- no lemma over tables sees them; operations go over least bytes, and bytes of a class do the same
-- (specs/Classings). A walk that numbers what it meets: `IndexSet::insert_full`, one record over the cells
-- of the table so far, a lemma for a further cell, an induction over the text (specs/Explored). Keys that
-- are `Vec`s are equal only in `.items`.
pub mod Common
pub mod Runs
pub mod Tables
pub mod Grouped
pub mod Columns
pub mod Pieces
pub mod Cells
pub mod Keyed
pub mod ReadOn
pub mod Pairs
pub mod Nearest
pub mod Outside
pub mod Closures
pub mod Determined
pub mod Replaced
pub mod Merged
pub mod Alone
pub mod Found
pub mod Following
pub mod Steps
pub mod Sole
pub mod Filled
pub mod Placing
pub mod Among
pub mod Behind
