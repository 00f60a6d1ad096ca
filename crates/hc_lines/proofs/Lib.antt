-- A scan of a run is kept in lengths: equations on the length of what was passed and of the front of the
-- rest; the front itself follows once, at the end (Passing). Trims from both ends go by a count, and the
-- end that is cut from is defined from the front, so nothing is reversed (Trims). A scan by one or two
-- bytes keeps its index, and the step is a function with its value and its bounds (WordsScan). That a
-- count in a definition doesn't matter once it is large enough is one lemma (WordsCount). A `&str` is
-- cut directly before or behind a byte of ASCII alone.
mod Ends
mod Joins
mod Passing
mod Pieces
mod Reading
mod Runs
mod Spans
mod Trims
mod WordsCount
mod WordsScan
pub mod Common
