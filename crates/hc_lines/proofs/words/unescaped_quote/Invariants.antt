use Rattle.hc_lines.proofs.Common.{◌≡◌, ◌+◌, ◌-◌, drop, length, option_map, unescaped_quote, quote_view}
use Rattle.hc_lines.proofs.words.unescaped_quote.Given as goal

-- none so far
abbrev pub invariant-loop-index : goal.invariant-loop-index
invariant-loop-index l =
    unescaped_quote (quote_view l.quote) l.bytes ≡ option_map (λ n. l.index + n)
    (unescaped_quote (quote_view l.quote) (drop l.index l.bytes))

abbrev pub decreases-loop-index : goal.decreases-loop-index
decreases-loop-index l = length l.bytes - l.index
