pub mod Variables
pub mod VariablesView
pub mod Says
pub mod Known
