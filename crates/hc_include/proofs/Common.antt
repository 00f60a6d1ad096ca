-- The names that the proofs of this crate cite, passed on from one place. Declares nothing.
pub use Rattle.std.proofs.Common.{ℕ, Result, Ok, Err, arith, ◌≡◌, refl, ap, subst, zero, suc, ◌-◌, ◌<◌}
pub use Rattle.std.proofs.Common.{List, [], ◌∷◌, Option, Some, None, ◌∙◌, sym, map, take, drop, ◌++◌}
pub use Rattle.std.proofs.Common.{◌+◌, ◌*◌, rules, of_calls}
pub use Rattle.hc_base.specs.declared.fault.AtByte.{AtByte}
pub use Rattle.hc_base.specs.declared.fault.Fault.{Fault}
pub use Rattle.hc_base.specs.declared.fault.Fault.TheVariants.{NoMemory, Refused}
pub use Rattle.hc_include.specs.Flat.{Reader, having_read, line_read, missing, within, begun, deepest, flat_at, flat_by}
pub use Rattle.hc_include.specs.Flat.{main_setting, read_on, stop_of}
unfoldable pub use Rattle.hc_include.specs.Flat.{behind_change, file_read, lines_read, reader_in, text_read, main_read}
unfoldable pub use Rattle.hc_include.specs.Flat.{flat_of, bytes_of}
pub use Rattle.hc_include.specs.Lines.{stopped_at}
pub use Rattle.hc_include.specs.Include.{in_directory, followed, matches}
unfoldable pub use Rattle.hc_include.specs.Include.{with_names, with_text, files_named}
pub use Rattle.hc_include.specs.declared.reading.Reading.{Reading}
pub use Rattle.hc_include.specs.declared.reading.Stopped.{Stopped}
pub use Rattle.hc_steps.proofs.Going.{ran_no_further, item_faults, item_more, ran_leaves, ran_off, ran_on, ran_then}
pub use Rattle.hc_steps.specs.Ran.{Logged, Leads}
unfoldable pub use Rattle.hc_steps.specs.Ran.{Ran}
pub use Rattle.hc_steps.specs.Run.{Run, Way, goes_on, is_over, looking, saying}
unfoldable pub use Rattle.hc_steps.specs.Run.{run}
pub use Rattle.hc_steps.specs.Shown.{shown_by}
pub use Rattle.hc_steps.specs.Step.{Shown, Step, leaves, ends, say, look, Path, in_order, names_at, text_at}
unfoldable pub use Rattle.hc_steps.specs.Step.{◌>>=◌}
