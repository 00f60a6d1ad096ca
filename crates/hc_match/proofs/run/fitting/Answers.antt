use Rattle.hc_match.proofs.Common.{ℕ, ◌∙◌, ◌≡◌, ap, arith, drop, take, is_first}
use Rattle.std.specs.List.{prefix_len}
use Rattle.std.proofs.lemmas.List.{drop_min, take_min}
use Rattle.std.proofs.lemmas.List.Sums.{prefix_len-le-length}
use Rattle.hc_match.proofs.Runs.{run_is_front}
use Rattle.hc_match.proofs.run.fitting.Goals as goal

pub returns-clause-value : goal.returns-clause-value
returns-clause-value c =
    let text = c.args.text.now in let rest = c.split_at.result.1.now in let test = is_first c.args.set in
    let from : rest ≡ drop c.args.at text = c.split_at.ensures.back ∙ ap (λ (at : ℕ). drop at text) c.min.ensures
    ∙ drop_min c.args.at text in
    c.front.ensures
    ∙ ap (prefix_len test) (c.split_at-2.ensures.front ∙ ap (λ (most : ℕ). take most rest) c.min-2.ensures
    ∙ take_min c.args.most rest ∙ ap (take c.args.most) from)
    ∙ run_is_front text test c.args.at c.args.most

pub returns-clause-within : goal.returns-clause-within
returns-clause-within c =
    let most = prefix_len-le-length (is_first c.args.set) c.split_at-2.result.0.now in
    omega (
      arith,
      most,
      c.front.ensures,
      c.split_at-2.ensures.front_len,
      c.min-2.ensures,
      c.split_at.ensures.back_len,
      c.min.ensures,
    )
