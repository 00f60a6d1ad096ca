use Rattle.std.proofs.Common.{◌++◌, ◌∙◌, ap, sym, take, length, map, ◌+◌, ◌-◌}
use Rattle.std.proofs.lemmas.List.{append_assoc}
use Rattle.hc_merge.specs.CandidateView.{candidate_of}
use Rattle.hc_merge.specs.Settings.{redirects_of}
use Rattle.hc_merge.proofs.Merging.{redirects_step}
use Rattle.hc_merge.proofs.settings.redirects_of.Goals as goal

pub loop-done-preserved : goal.loop-done-preserved
loop-done-preserved c =
    let left =
    redirects_of (map candidate_of (take (length c.args.kept.now - (c.loop-done.done + 1)) c.args.kept.now)) in
    c.loop-done.invariant
    ∙ ap (λ rest. c.loop-done.redirects ++ rest)
    (redirects_step c.args.kept.now c.index-kept-kept.result c.loop-done.done c.loop-done-test.true)
    ∙ sym (append_assoc c.loop-done.redirects _ left)
    ∙ ap (λ front. front ++ left)
    (sym (c.in_ok-redirects.ensures ∙ ap (λ more. c.loop-done.redirects ++ more) c.as_slice.ensures))
