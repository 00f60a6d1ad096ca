use Rattle.hc_session.proofs.Standing.{sound_edited}
use Rattle.hc_session.proofs.session.Session.edit.Goals as goal

pub invariant_of-self : goal.invariant_of-self
invariant_of-self c = sound_edited _ _ _ _ _ _ c.make.result _ c.make.ensures c.self.invariant
