-- What those above name of claims, passed on. Declares nothing.
pub use Rattle.hc_cert.specs.Claims.{Answers, Asked, Decided, Holds, IsDecided, MayRun, Runs}
pub use Rattle.hc_cert.specs.Claims.decided
