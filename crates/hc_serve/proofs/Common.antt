-- The names that the proofs of this crate cite, passed on from one place. Declares nothing.
pub use Rattle.std.proofs.Common.{◌≡◌, ◌∙◌, ℕ, List, ◌++◌, Option, Ok, Err, sym, ap, subst, suc}
pub use Rattle.std.proofs.Common.{◌+◌, ◌-◌, ◌<◌, ◌≤◌, Result, refl, arith, drop}
pub use Rattle.hc_serve.specs.Answers.{IsServed, log_of}
unfoldable pub use Rattle.hc_serve.specs.Passing.{passed_there, reached, walked}
pub use Rattle.hc_serve.specs.Request.{outcome_of, tree_of, whole_run}
unfoldable pub use Rattle.hc_serve.specs.Passing.{passed}
unfoldable pub use Rattle.hc_serve.specs.Request.{opened, passes}
pub use Rattle.hc_steps.proofs.Going.{events_then_reads, handed_on, leads_all, leads_end, ran_leaves, ran_no_further}
pub use Rattle.hc_steps.proofs.Going.{ran_then, ran_off, ran_on}
pub use Rattle.hc_steps.specs.Ran.{Logged, grown, with_events, with_read, with_reads, Leads}
unfoldable pub use Rattle.hc_steps.specs.Ran.{Ran}
pub use Rattle.hc_steps.specs.Run.{Run, run}
