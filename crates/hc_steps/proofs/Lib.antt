-- What a step in code shows: an exit for memory `ran_no_memory`, a single look `ran_shown`, an event and what
-- follows `ran_said`, a value `ran_leaves`, an end `ran_ends`, the `?` behind a step whose arguments are the
-- definition's own `ran_then` and `ran_no_further`. By hand: the last return of several steps, and a `?`
-- behind a computed argument (`ran_off`). A loop over items: `items_begin`, `item_more`, `item_faults`,
-- `items_end` are the four goals of `Leads old whole now (run (in_order ..) shown)`.
pub mod Common
pub mod Going
pub mod Keeping
pub mod Kept
pub mod Running
