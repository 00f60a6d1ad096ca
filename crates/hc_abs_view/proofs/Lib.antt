-- Keeping: the steps that are kept are those of the expression's tree. Leading: the forks that they make. Jumping: the
-- plan of the forks is that of the expression. Natural: what follows an expression follows its plan. Pieces: texts.
-- Testing: the sides of a test. Members, Comparing: those of a comparison. Placing: what is left of the forks.
pub mod Keeping
pub mod Leading
pub mod Jumping
pub mod Natural
pub mod Pieces
pub mod Testing
pub mod Members
pub mod Comparing
pub mod Placing
