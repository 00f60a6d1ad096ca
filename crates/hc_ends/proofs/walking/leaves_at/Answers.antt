use Rattle.std.proofs.Common.{refl, ap}
use Rattle.hc_members.specs.Requests.{common_request}
use Rattle.hc_steps.specs.Shown.{shown_by}
use Rattle.hc_world.specs.Edits.{Edited}
use Rattle.hc_claim.proofs.Answered.{site_as}
use Rattle.hc_ends.proofs.walking.leaves_at.Goals as goal

pub leaves_on-requires-clause-fits : goal.leaves_on-requires-clause-fits
leaves_on-requires-clause-fits g c =
    let question = c.args.question in record {
      world = ap (λ (world : Edited). shown_by world.files) c.in_ok-around.ensures.world;
      site =
          site_as question.config.now c.args.host _ _ (common_request question.scope.now) c.requires.tests
          c.requires.host;
      looked = c.as_slice-2.ensures;
      client = c.sole_client.ensures;
      net = refl;
    }
