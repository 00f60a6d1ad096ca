use Rattle.std.proofs.Common.{◌≡◌, map, take}
use Rattle.hc_json.specs.CommandView.{host_view}
use Rattle.hc_session.specs.Following.{origin_of}
use Rattle.hc_session.proofs.following.origins_of.Given as goal

-- those that are made are those of the forms so far
abbrev pub invariant-loop-form : goal.invariant-loop-form
invariant-loop-form l = l.origins.items ≡ map origin_of (map host_view (take l.form-index l.forms))
