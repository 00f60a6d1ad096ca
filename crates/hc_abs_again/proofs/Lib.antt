-- The request's run is led beside a plan's by the laws of hc_abs_segments, and the plan's run has a branch by `covered`
-- (hc_plan). In between stand: Coming, Naming and Leading (what a directory's list was reached by), Reached (each
-- segment leads to such a place), Lasting (plans in which another pass may follow, beside those in which none may),
-- Exact (a walk's end is met again by its name), Sides (one side of a test), Marked (a substitution made in an earlier
-- round) and Placing (where a directory's list is in force). Bytes stands beside them.
pub mod Common
pub mod Coming
pub mod Naming
pub mod Leading
pub mod Reached
pub mod Lasting
pub mod Exact
pub mod Sides
pub mod Marked
pub mod Placing
pub mod Arriving
pub mod Bytes
