-- Each function of the code has the definition of the same name, with `view result ≡ definition (view argument)`.
pub mod Common
pub mod TokenLemmas
pub mod SyntaxLemmas
pub mod Building
pub mod StepsHeld
pub mod Grammatical
pub mod StepsOfTrees
