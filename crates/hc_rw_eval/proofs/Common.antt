-- The names that the proofs of this crate cite, passed on from one place. Declares nothing.
pub use Rattle.std.proofs.Common.{◌≡◌, ◌∙◌, ℕ, zero, suc, ◌+◌, ◌-◌, ◌<◌, ◌≤◌, List, []}
pub use Rattle.std.proofs.Common.{◌∷◌, length, take, drop, get_or, Bool, true, false, Option, Some, None, Result}
pub use Rattle.std.proofs.Common.{Ok, Err, refl, sym, ap, subst, arith, if◌then◌else◌}
pub use Rattle.hc_base.specs.declared.fault.Fault.{Fault}
pub use Rattle.hc_model.specs.declared.outcome.Outcome.{Outcome}
pub use Rattle.hc_model.specs.declared.outcome.Outcome.TheVariants.{Limit}
pub use Rattle.hc_model.specs.declared.rewrite.Rule.{Rule}
pub use Rattle.hc_rw_eval.specs.declared.attempt.Attempt.{Attempt}
pub use Rattle.hc_rw_eval.specs.declared.attempt.Rewritten.{Rewritten}
pub use Rattle.hc_rw_eval.specs.declared.run.Finished.{Finished}
pub use Rattle.hc_rw_eval.specs.declared.run.NextRound.{NextRound}
pub use Rattle.hc_rw_eval.specs.declared.run.Round.{Round}
pub use Rattle.hc_rw_eval.specs.declared.run.Round.TheVariants.{Again, Over}
pub use Rattle.hc_rw_expand.specs.Contexts.{Context}
pub use Rattle.hc_rw_expand.specs.Lookups.{Looks}
pub use Rattle.hc_steps.specs.Ran.{Logged, Leads}
unfoldable pub use Rattle.hc_steps.specs.Ran.{Ran}
pub use Rattle.hc_steps.specs.Run.{Run}
unfoldable pub use Rattle.hc_steps.specs.Run.{run}
pub use Rattle.hc_steps.specs.Step.{Shown, Step, leaves, ends, say, look, told, in_order}
unfoldable pub use Rattle.hc_steps.specs.Step.{◌>>=◌}
pub use Rattle.hc_steps.proofs.Going.{handed_on, leads_all, leads_end, item_faults, item_more, ran_ends, ran_leaves}
pub use Rattle.hc_steps.proofs.Going.{ran_no_further, ran_no_memory, ran_said, ran_then, ran_off, ran_on}
