pub mod Templates
pub mod RuleFlags
pub mod CondFlags
pub mod Rules
