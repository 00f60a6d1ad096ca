use Rattle.std.proofs.Common.{◌≡◌, [], drop}
use Rattle.hc_members.specs.Requests.{are_headers}
use Rattle.hc_members.proofs.headers.are_headers.Given as goal

-- the headers that are left decide
abbrev pub invariant-loop-header : goal.invariant-loop-header
invariant-loop-header l = are_headers l.names.keys (drop l.header-index l.headers) ≡ are_headers [] l.headers
