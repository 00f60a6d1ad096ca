use Rattle.hc_match.proofs.Common.{◌≡◌, ℕ, ◌∙◌, ap, arith, drop, is_first}
use Rattle.std.specs.Prelude.{not}
use Rattle.std.specs.List.{prefix_len}
use Rattle.std.proofs.lemmas.List.{drop_min}
use Rattle.std.proofs.lemmas.List.Sums.{prefix_len-le-length}
use Rattle.hc_match.proofs.Places.{all_passed}
use Rattle.hc_match.proofs.start.First.next_place.Goals as goal

pub overflow_add-result : goal.overflow_add-result
overflow_add-result c =
    let most = prefix_len-le-length (λ (byte : ℕ). not (is_first c.args.self byte)) c.split_at.result.1.now in
    omega (arith, most, c.before-2.ensures, c.split_at.ensures.back_len, c.min.ensures)

pub returns-clause-same : goal.returns-clause-same
returns-clause-same c pattern end begins =
    let text = c.args.text.now in let test = λ (byte : ℕ). not (is_first c.args.self byte) in
    let count : c.before-2.result ≡ prefix_len test (drop c.args.from text) =
    c.before-2.ensures ∙ ap (prefix_len test) (c.split_at.ensures.back ∙ ap (λ at. drop at text) c.min.ensures
    ∙ drop_min c.args.from text) in
    all_passed c.args.self text pattern end c.args.from c.before-2.result begins (omega (arith, count))
