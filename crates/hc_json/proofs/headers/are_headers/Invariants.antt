use Rattle.std.proofs.Common.{◌≡◌, []}
use Rattle.serde_json.specs.View.{members_view}
use Rattle.hc_json.specs.Forms.{are_headers}
use Rattle.hc_json.proofs.headers.are_headers.Given as goal

-- the members that are left decide
abbrev pub invariant-loop-name : goal.invariant-loop-name
invariant-loop-name l = are_headers l.names.keys (members_view l.name-iterator)
    ≡ are_headers [] (members_view l.members.entries)
