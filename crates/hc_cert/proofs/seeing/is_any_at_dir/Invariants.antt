use Rattle.std.proofs.Common.{◌≡◌, drop}
use Rattle.std.specs.List.{list_any}
use Rattle.hc_cert.specs.Checking.{is_dir}
use Rattle.hc_cert.specs.Coded.{named_in}
use Rattle.hc_cert.proofs.seeing.is_any_at_dir.Given as goal

abbrev pub invariant-loop-own : goal.invariant-loop-own
invariant-loop-own l =
    list_any (λ own. is_dir own.at) (named_in l.cells)
    ≡ list_any (λ own. is_dir own.at) (named_in (drop l.own-index l.cells))
