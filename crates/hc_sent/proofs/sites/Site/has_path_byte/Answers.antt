use Rattle.hc_target.specs.Segments.{is_normal}
use Rattle.hc_sent.proofs.Meeting.{other_in, path_text}
use Rattle.hc_sent.proofs.Texts.{answer_as}
use Rattle.hc_sent.specs.Ways.{IsPath}
use Rattle.hc_sent.proofs.sites.Site.has_path_byte.Goals as goal

pub returns : goal.returns
returns c parts before origin site =
    answer_as _ (other_in (IsPath parts before origin) _ _ is_normal site.way.paths c.in_ok-normal.ensures
    (path_text parts before origin)) c.in_ok-has.ensures
