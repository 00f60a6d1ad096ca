use Rattle.hc_pattern.proofs.Common.{◌≡◌, ◌++◌, ◌≤◌, drop, map, tokens_from, tokens_of}
use Rattle.hc_pattern.specs.TokenViews.{placed_view}
use Rattle.hc_pattern.proofs.token.tokens.Given as goal

abbrev pub invariant-loop-i : goal.invariant-loop-i
invariant-loop-i l = record {
  all : map placed_view l.tokens.items ++ tokens_from l.nocase l.passed l.groups l.i (drop l.i l.text)
      ≡ tokens_of l.nocase l.text;
  few : l.groups ≤ l.i;
}
