use Rattle.std.proofs.Common.{◌≡◌, map}
use Rattle.serde_json.specs.View.{members_view}
use Rattle.hc_json.specs.Fields.{unknown_member}
use Rattle.hc_json.proofs.fields.unknown_member.Given as goal

-- the members that are left decide
abbrev pub invariant-loop-key : goal.invariant-loop-key
invariant-loop-key l = unknown_member (map (λ k. k.now) l.known) (members_view l.key-iterator)
    ≡ unknown_member (map (λ k. k.now) l.known) (members_view l.members.entries)
