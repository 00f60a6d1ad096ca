-- What the program names of sessions, passed on. Declares nothing.
pub use Rattle.hc_session.specs.Conversation.{Completes, Served}
pub use Rattle.hc_session.specs.Sending.{AppendsFront}
pub use Rattle.hc_session.specs.Session.{Work, start, work}
pub use Rattle.hc_session.specs.declared.status.Status.{Status}
pub use Rattle.hc_session.specs.declared.status.Status.TheVariants.{Done, WriteFault}
