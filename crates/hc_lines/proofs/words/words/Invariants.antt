use Rattle.hc_lines.proofs.Common.{shadow, Utf8, ◌≡◌, length, words_of, spelling_view}
use Rattle.hc_lines.proofs.WordsCount.{after}
use Rattle.hc_lines.proofs.words.words.Given as goal

-- the words so far, and those of the rest
abbrev pub invariant-loop-words : goal.invariant-loop-words
invariant-loop-words l = shadow (Utf8 l.rest)
    × (words_of (spelling_view l.spelling) l.text ≡ after l.words.items (words_of (spelling_view l.spelling) l.rest))

abbrev pub decreases-loop-words : goal.decreases-loop-words
decreases-loop-words l = length l.rest
