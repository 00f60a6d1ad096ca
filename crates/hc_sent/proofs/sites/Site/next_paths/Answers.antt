use Rattle.hc_target.specs.Segments.{is_normal}
use Rattle.hc_sent.proofs.Meeting.{met_in}
use Rattle.hc_sent.specs.Ways.{IsPath}
use Rattle.hc_sent.proofs.sites.Site.next_paths.Goals as goal

pub returns : goal.returns
returns c parts before origin site =
    met_in (IsPath parts before origin) _ _ is_normal site.way.paths c.in_ok-normal.ensures _ c.in_ok-made.ensures
