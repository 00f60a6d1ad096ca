-- The definition reads from the last line to the first and the code from the first: what is done, over
-- the definition of the rest, is the definition of all (Building). A tree behind a `Vec` is
-- `fold-T (Ys → Ys) step`: each node puts itself before others (specs/NodeView).
pub mod Common
pub mod Building
pub mod Closes
pub mod Refusals
pub mod Steps
pub mod Texts
pub mod Trees
