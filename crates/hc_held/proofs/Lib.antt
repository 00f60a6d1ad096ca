-- A request is followed from cut to cut. At each one it lies in a cell of the invariant (Lying), has a branch of that
-- cell (Arrivals) which leads where the request does (Leading), and a directory's list sees a query of bytes (Seeing).
-- Ranks and rounds have grown there (Growing; Rounds and Further say what further rounds begin with), so that no limit
-- is reached (Bounded). Held joins these by an induction over the segments of the run, and Accepting says what an
-- accepted invariant gives, and the law. Which cell a branch leads to can't be told, so all is said weakly (Weakly).
pub mod Weakly
pub mod Rounds
pub mod Further
pub mod Lying
pub mod Arrivals
pub mod Leading
pub mod Growing
pub mod Bounded
pub mod Seeing
pub mod Held
pub mod Accepting
