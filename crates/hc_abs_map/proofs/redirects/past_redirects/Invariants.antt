use Rattle.hc_abs_map.proofs.Common.{take}
use Rattle.hc_abs_map.specs.Entries.{GoesRedirects}
use Rattle.hc_abs_map.proofs.redirects.past_redirects.Given as goal

abbrev pub invariant-loop-redirect : goal.invariant-loop-redirect
invariant-loop-redirect l =
    GoesRedirects (take l.redirect-index l.redirects) l.fn.before l.rest l.fn.found.items l.found.items
