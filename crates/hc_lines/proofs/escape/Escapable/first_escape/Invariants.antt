use Rattle.hc_lines.proofs.Common.{◌≡◌, ◌++◌, drop, take, unescaped, escapable_view}
use Rattle.hc_lines.proofs.escape.Escapable.first_escape.Given as goal

-- none so far
abbrev pub invariant-loop-index : goal.invariant-loop-index
invariant-loop-index l = unescaped (escapable_view l.self) l.bytes ≡ take l.index l.bytes ++ unescaped
    (escapable_view l.self) (drop l.index l.bytes)
