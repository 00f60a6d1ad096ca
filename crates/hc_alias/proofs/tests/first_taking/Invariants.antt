use Rattle.std.proofs.Common.{◌≡◌, drop}
use Rattle.hc_alias.specs.Tests.{first_taking}
use Rattle.hc_alias.proofs.tests.first_taking.Given as goal

-- no entry so far takes the path
abbrev pub invariant-loop-entry : goal.invariant-loop-entry
invariant-loop-entry g l =
    first_taking g.E.Entry.test_of (drop l.entry-index l.entries) l.path
    ≡ first_taking g.E.Entry.test_of l.entries l.path
