use Rattle.hc_lines.proofs.Common.{rules, refl, ap, ◌∙◌, read_words, first_view, spelling_view}
use Rattle.std.proofs.lemmas.Result.{err_from_is_err_and}
use Rattle.hc_lines.proofs.WordsCount.{words_on, words_shorter, words_unclosed}
use Rattle.hc_lines.proofs.words.words.Goals as goal

pub returns-in_err-piece : goal.returns-in_err-piece
unfolding read_words
returns-in_err-piece c =
    let p = err_from_is_err_and c.from_residual.result c.from_residual.ensures.1 in
    let unclosed = words_unclosed c.args.spelling c.loop-words.words.items c.loop-words.rest.now
    c.in_err-piece.ensures.1 in
    rw (p.1, p.2, c.in_err-piece.ensures.0, c.loop-words.invariant.1, unclosed) refl

pub loop-words-smaller : goal.loop-words-smaller
loop-words-smaller c =
    words_shorter c.args.spelling c.loop-words.rest.now _ _
    (c.in_ok-piece.ensures ∙ ap (first_view (spelling_view c.args.spelling)) c.in-Some.is)

pub loop-words-preserved : goal.loop-words-preserved
loop-words-preserved c =
    let first = c.in_ok-piece.ensures ∙ ap (first_view (spelling_view c.args.spelling)) c.in-Some.is in (
      search rules,
      c.loop-words.invariant.1 ∙ words_on c.args.spelling c.loop-words.words.items _
          c.loop-words.rest.now _ _ _ first c.in_ok-push.ensures.items c.in_ok-said.ensures,
    )
