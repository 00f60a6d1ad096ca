-- What those above name of invariants that are asked about, passed on. Declares nothing.
pub use Rattle.hc_cert.specs.Checking.{IsVerdict}
pub use Rattle.hc_cert.specs.Holding.{Holds}
pub use Rattle.hc_cert.specs.declared.verdict.Condition.{Condition}
pub use Rattle.hc_cert.specs.declared.verdict.Condition.TheVariants as condition
pub use Rattle.hc_cert.specs.declared.verdict.Verdict.{Verdict}
pub use Rattle.hc_cert.specs.declared.verdict.Verdict.TheVariants.{Accepted, Rejected}
