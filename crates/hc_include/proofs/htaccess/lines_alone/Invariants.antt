use Rattle.std.proofs.Common.{◌≡◌, drop}
use Rattle.hc_include.specs.Override.{lines_alone}
use Rattle.hc_include.proofs.htaccess.lines_alone.Given as goal

-- what is read of the lines that are left is what is read of all
abbrev pub invariant-loop-line : goal.invariant-loop-line
invariant-loop-line l = lines_alone l.file l.initial.reading l.lines ≡ lines_alone l.file l.reading
    (drop l.line-index l.lines)
