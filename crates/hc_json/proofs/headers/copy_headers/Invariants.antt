use Rattle.std.proofs.Common.{◌≡◌, ◌++◌}
use Rattle.serde_json.specs.View.{members_view}
use Rattle.hc_json.specs.Forms.{headers_of}
use Rattle.hc_json.proofs.headers.copy_headers.Given as goal

-- the headers that were made, and those of the members that are left, are all
abbrev pub invariant-loop-name : goal.invariant-loop-name
invariant-loop-name l = l.headers ++ headers_of (members_view l.name-iterator)
    ≡ headers_of (members_view l.members.entries)
