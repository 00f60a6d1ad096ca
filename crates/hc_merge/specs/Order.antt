-- The sections that may be in force for a file name, in the order in which they are merged.
-- Apache manual, "Configuration Sections", "How the sections are merged". The order within a group, and where
-- sections inside others stand, is our own choice.
use Rattle.std.specs.Prelude.{ℕ, ◌+◌, List, [], ◌∷◌, ◌++◌, map, filter, Option, Some, None}
use Rattle.std.specs.List.{flat_map, fold}
use Rattle.hc_model.specs.declared.config.Config.{Config}
use Rattle.hc_model.specs.declared.config.HostId.{HostId}
use Rattle.hc_model.specs.declared.section.Allowed.{Allowed}
use Rattle.hc_model.specs.declared.section.Body.{out-Body}
use Rattle.hc_model.specs.declared.section.Section.{Section, out-Section}
use Rattle.hc_merge.specs.Candidates.{Candidate, Path, at_directory, sections_at, sections_of, untested}
use Rattle.hc_merge.specs.Groups.{group_of, same_group}
use Rattle.hc_merge.specs.Overriding.{Files_at, allowed_behind, nothing_allowed, override_at}
use Rattle.hc_merge.specs.declared.group.Group.{Group}
use Rattle.hc_merge.specs.declared.group.Group.TheVariants.{Components, Conditions, Names, Urls}

-- For each directory of a walk, from `/` down: its sections, then its `.htaccess`.
abbrev pub first_group : List (List Section) → Files_at → Allowed → List Path → List Candidate
first_group lists files so_far [] = []
first_group lists files so_far (dir ∷ dirs) =
    map (at_directory dir) (sections_at lists dir)
    ++ override_at files dir (allowed_behind so_far (sections_at lists dir))
    ++ first_group lists files (allowed_behind so_far (sections_at lists dir)) dirs

-- ---- the other groups

abbrev pub among_group : Group → List Section → List Section
among_group group sections = filter (λ section. same_group group (group_of (out-Section section).reach)) sections

-- The sections inside a candidate, which stands at this place.
abbrev pub inside : Group → ℕ → Candidate → List Candidate
inside group place candidate = map (untested (Some place)) (among_group group (out-Body candidate.body).inner)

abbrev pub inside_each : Group → ℕ → List Candidate → List Candidate
inside_each group place [] = []
inside_each group place (candidate ∷ candidates) =
    inside group place candidate ++ inside_each group (place + 1) candidates

-- Behind the earlier groups: the servers' sections, and then those inside sections, in the order in
-- which these are merged.
abbrev pub tops : Group → List Section → List Candidate
tops group sections = map (untested None) (among_group group sections)

abbrev pub with_group : List (List Section) → List Candidate → Group → List Candidate
with_group lists earlier group = earlier ++ flat_map (tops group) lists ++ inside_each group 0 earlier

abbrev pub ordered_sections : Config → HostId → Files_at → List Path → List Candidate
ordered_sections config host files dirs =
    fold (with_group (sections_of config host)) (first_group (sections_of config host) files nothing_allowed dirs)
    (Names ∷ Components ∷ Urls ∷ Conditions ∷ [])
