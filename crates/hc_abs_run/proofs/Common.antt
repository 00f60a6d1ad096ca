-- The names that the proofs of this crate and of those above cite, passed on from one place. Declares nothing.
pub use Rattle.std.proofs.Common.{◌≡◌, ◌∙◌, ℕ, List, [], ◌∷◌, ◌++◌, Bool, true, false}
pub use Rattle.std.proofs.Common.{Option, None, Some, option_map, if◌then◌else◌, refl, sym, ap, subst, inl, inr}
pub use Rattle.hc_addr.specs.declared.addr.Addr.{Addr}
pub use Rattle.hc_model.specs.declared.event.Decision.{Decision}
pub use Rattle.hc_plan.specs.Branches.{Branch}
pub use Rattle.hc_plan.specs.Coded.{AreBranches}
pub use Rattle.hc_plan.specs.Plan.{Plan, done}
pub use Rattle.hc_plan.specs.States.{AbsState}
pub use Rattle.hc_plan.specs.declared.storing.Tied.{Tied}
pub use Rattle.hc_abs_force.specs.Merging.{merges}
pub use Rattle.hc_abs_left.specs.Grounds.{HasClients, Stands, ground_in, shown_in}
pub use Rattle.hc_abs_left.specs.Segments.{Are, SegmentFits}
pub use Rattle.hc_abs_left.specs.declared.ground.Ground.{Ground as LentGround}
pub use Rattle.hc_abs_left.specs.declared.segment.Segment.{Segment}
pub use Rattle.hc_abs_name.proofs.Clients.{with_clients}
pub use Rattle.hc_abs_name.proofs.Refusing.{left_ordered, looked_way}
pub use Rattle.hc_abs_name.specs.Reading.{first_refused, way_by}
pub use Rattle.hc_abs_pass.specs.Ends.{EndsAt}
pub use Rattle.hc_abs_pass.specs.Passing.{Ground}
pub use Rattle.hc_abs_pass.specs.Passing.{Segment as End}
pub use Rattle.hc_abs_rw.specs.RuleBranches.{Rests}
