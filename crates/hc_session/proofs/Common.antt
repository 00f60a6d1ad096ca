-- The names that the proofs of this crate cite, passed on from one place. Declares nothing.
pub use Rattle.std.proofs.Common.{◌≡◌, ℕ, List, [], ◌∷◌, ◌++◌, Option, append-nil, subst, refl, inl}
pub use Rattle.std.proofs.Common.{◌+◌, ◌≤◌, length, take, drop, Some, None, arith, sym, ap, ◌∙◌}
pub use Rattle.std.proofs.Common.{append_assoc, length-drop, ◌≢◌, ◌⊎◌, ◌<◌, Bool, true, false, inr}
pub use Rattle.std.proofs.Common.{◌-◌, length-append, eqb-true, true≢false}
pub use Rattle.std.proofs.lemmas.List.{take-append-drop, take-append-le, length-take-le, nil_from_length}
pub use Rattle.std.specs.Io.KnownBytes.{Appends, Consumes, Keeps, IsAtEnd}
pub use Rattle.hc_base.proofs.Lines.{HasNoLf-append, HasNoLf-take, at_lf, whole_lines-none, rest_of-none}
pub use Rattle.hc_base.proofs.Lines.{whole_lines-line, rest_of-line, whole_lines-append, rest_of-append}
pub use Rattle.hc_base.proofs.Lines.{rest_of-none_longer, HasNoLf-from_rest_of}
pub use Rattle.hc_base.specs.Lines.{HasNoLf, whole_lines, rest_of}
pub use Rattle.hc_session.specs.Session.{State, AnswersTaking, Work, work, both}
pub use Rattle.hc_session.specs.Sending.{AppendsFront, SendsInPart, AnswersLine, AnswersInPart, AnswersLines}
pub use Rattle.hc_session.specs.Sending.{AnswersLinesInPart, IsSpent, output, refusals}
pub use Rattle.hc_session.specs.declared.limits.TheConstants.{LINE_LIMIT, SCRIPT_LIMIT}
