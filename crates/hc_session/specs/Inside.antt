-- What a session is seen as, and what holds of it.
use Rattle.hc_session.specs.Session.{State}
use Rattle.hc_session.specs.Sound.{IsSound}
use Rattle.hc_session.specs.declared.session.Session.TheInside.{Inside}

abbrev pub state_of : Inside → State
state_of session = record {
  limit = session.limit;
  world = session.world;
  main = session.main;
  kept = session.answers.entries;
  asks = session.asks;
  evaluations = session.evaluations;
  ended = session.ended;
}

abbrev pub IsWhole : Inside → Type 0
IsWhole session = IsSound session.world session.main session.answers.entries session.site session.answers.limit
