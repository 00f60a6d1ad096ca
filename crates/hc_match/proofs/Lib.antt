-- What waits in the straight search are frames borrowed from the calls that wait; their meaning is a
-- recursion on the frame, and the steps left are the measure. In a cycle of calls each `&` is lent again
-- (`&*next`, `&**body`). A search's contract speaks of all that may be held before, so nothing is kept on
-- the way in. A program's steps are read as a function of places; a step that is patched later has its
-- meaning chosen first (specs/Program). The table of failures: each pair on the stack has all its ways in
-- the next pair and in what is still to be tried, whatever is kept (specs/Pairs). A stack whose top is
-- the `Vec`'s end is a `fold`, and `fold-append` its one lemma.
pub mod Common
pub mod Fronts
pub mod Places
pub mod Saying
pub mod Starts
pub mod Runs
pub mod StepLists
pub mod Compiled
pub mod PairTable
pub mod PairSearch
pub mod Matching
