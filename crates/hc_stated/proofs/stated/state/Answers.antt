use Rattle.std.proofs.Common.{refl}
use Rattle.hc_regset.specs.Forms.{form_of}
use Rattle.hc_stated.specs.Views.{sets_in}
use Rattle.hc_stated.proofs.stated.state.Goals as goal

pub returns : goal.returns
returns c = record {
  is_read = rw (
    c.in_ok-target.ensures.is_read,
    c.in_ok-path.ensures.is_read,
    c.in_ok-query.ensures.is_read,
  ) refl;
  claimed = c.in_ok-claim_with.ensures (form_of c.args.sets.now.target) c.in_ok-target.ensures;
  asked = c.in_ok-scope_with.ensures (sets_in c.args.sets.now) c.in_ok-path.ensures c.in_ok-query.ensures;
}
