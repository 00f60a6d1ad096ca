-- Redirects of sections from the last on, and the sections of two servers.
use Rattle.std.proofs.Common.{◌≡◌, ℕ, ◌+◌, ◌-◌, ◌<◌, length, take, get_or, arith, List, []}
use Rattle.std.proofs.Common.{◌∷◌, ◌++◌, map, Bool, true, false, if◌then◌else◌, refl, sym, ap}
use Rattle.std.proofs.Common.{◌∙◌}
use Rattle.std.proofs.lemmas.List.{append_assoc, append-nil, take_more}
use Rattle.hc_model.specs.declared.mapping.Redirect.{Redirect}
use Rattle.hc_model.specs.declared.section.Body.{out-Body}
use Rattle.hc_merge.specs.CandidateView.{candidate_of}
use Rattle.std.specs.List.{flat_map}
use Rattle.hc_model.specs.declared.section.Section.{Section}
use Rattle.hc_merge.specs.Candidates.{Candidate}
use Rattle.hc_merge.specs.Order.{tops}
use Rattle.hc_merge.specs.declared.group.Group.{Group}
use Rattle.hc_merge.specs.Settings.{redirects_of}
use Rattle.hc_merge.specs.declared.candidate.Candidate as code

abbrev own : Candidate → List Redirect
own candidate = (out-Body candidate.body).redirects

pub redirects_end : (before : List code.Candidate) (last : code.Candidate)
    → redirects_of (map candidate_of (before ++ last ∷ [])) ≡ own (candidate_of last) ++ redirects_of
    (map candidate_of before)
redirects_end [] last = sym (append-nil (own (candidate_of last)))
redirects_end (first ∷ before) last =
    ap (λ redirects. redirects ++ own (candidate_of first)) (redirects_end before last)
    ∙ append_assoc (own (candidate_of last)) (redirects_of (map candidate_of before)) (own (candidate_of first))

-- One more from the end.
pub redirects_step : (kept : List code.Candidate) (d : code.Candidate) (done : ℕ) → done < length kept
    → redirects_of (map candidate_of (take (length kept - done) kept))
    ≡ own (candidate_of (get_or kept (length kept - 1 - done) d)) ++ redirects_of
    (map candidate_of (take (length kept - (done + 1)) kept))
redirects_step kept d done within =
    let place : length kept - done ≡ (length kept - 1 - done) + 1 = omega (arith, within) in
    let left : length kept - (done + 1) ≡ length kept - 1 - done = omega (arith, within) in
    rw (place, left, take_more kept (length kept - 1 - done) d (omega (arith, within)))
    (redirects_end (take (length kept - 1 - done) kept) (get_or kept (length kept - 1 - done) d))

-- ---- the sections of two servers

pub two_tops : (group : Group) (before middle later : List Candidate) (main host : List Section)
    → middle ≡ before ++ tops group main
    → later ≡ middle ++ tops group host → later ≡ before ++ flat_map (tops group) (main ∷ host ∷ [])
two_tops group before middle later main host is further =
    further ∙ ap (λ front. front ++ tops group host) is ∙ append_assoc before (tops group main) (tops group host)
    ∙ ap (λ more. before ++ (tops group main ++ more)) (sym (append-nil (tops group host)))
