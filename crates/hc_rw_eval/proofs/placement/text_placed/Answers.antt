use Rattle.hc_rw_eval.proofs.Common.{◌≡◌, true}
use Rattle.hc_rw_eval.specs.Substitutions.{text_placed}
use Rattle.hc_rw_eval.proofs.placement.text_placed.Goals as goal
use Rattle.hc_target.specs.Urls.{is_url}

pub returns-then-is_url : goal.returns-then-is_url
unfolding text_placed
returns-then-is_url g c =
    let is : is_url c.args.state.text ≡ true = cc in
    rw is (rw (c.in_ok-path.ensures, c.redirects.ensures, c.as_bytes-then-is_url.ensures) at c.url_placed.ensures)
