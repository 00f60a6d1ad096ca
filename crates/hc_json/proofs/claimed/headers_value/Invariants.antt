use Rattle.std.proofs.Common.{◌≡◌, drop}
use Rattle.serde_json.specs.Data.{no_members}
use Rattle.serde_json.specs.View.{members_view}
use Rattle.hc_json.specs.Claimed.{with_headers}
use Rattle.hc_json.proofs.claimed.headers_value.Given as goal

-- the members that were made, with those of the headers that are left, are all
abbrev pub invariant-loop-header : goal.invariant-loop-header
invariant-loop-header l = with_headers (members_view l.members.entries) (drop l.header-index l.headers)
    ≡ with_headers no_members l.headers
