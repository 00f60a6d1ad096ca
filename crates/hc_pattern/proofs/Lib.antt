-- Each function of the code has the definition of the same name, with `view result ≡ definition (view
-- argument)`: nearly all close without a file. Signs of several bytes are a count of bytes still to be
-- passed, in the definition and in the loop, so that the recursion stays structural.
pub mod Common
pub mod Sets
pub mod Unclosed
pub mod GlobLemmas
pub mod ClassLemmas
pub mod TokenLemmas
pub mod ReadingLemmas
pub mod BuildLemmas
pub mod Rests
pub mod Nodes
