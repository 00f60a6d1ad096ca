-- What those above name of claims, passed on. Declares nothing.
pub use Rattle.hc_claim.specs.Asking.{Asked, HasEmptySlot, known_before}
pub use Rattle.hc_claim.specs.Bad.{IsBad, is_match}
pub use Rattle.hc_claim.specs.Deciding.{Answers, IsDecided, MayRun, Runs}
pub use Rattle.hc_claim.specs.Holding.{Holds}
pub use Rattle.hc_claim.specs.declared.decided.Decided.{Decided}
pub use Rattle.hc_claim.specs.declared.decided.Decided.TheVariants as decided
