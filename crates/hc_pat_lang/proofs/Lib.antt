-- What is made of sets is a graph (specs/Graphs), and a lemma on its ways is all that each needs. Nodes are made from
-- the back: each is what it takes
-- in terms of nodes that are there, a fragment speaks of every later list that agrees from its first node
-- on, and only a loop is set afterwards. "Some way leads to .." is `Exists P ways` with the rest of the
-- text in `P`: `flat_map` is one lemma, and what is kept of groups never shows. Marked bytes (256 and the
-- byte) choose one turn of a group: a text of marks is an ordinary text of the machine.
pub mod Common
pub mod Moving
pub mod Joining
pub mod Rests
pub mod Cutting
pub mod Merges
pub mod Parts
pub mod Serving
pub mod Bounds
pub mod Seeing
pub mod Unmarked
pub mod Turning
pub mod Choosing
pub mod Marking
pub mod Grouping
pub mod Fragmenting
pub mod Taking
pub mod Looking
pub mod Covering
