-- What the code keeps of a candidate.
use Rattle.std.specs.Prelude.{List, [], ◌∷◌, Vec, map, Option, Some, None}
use Rattle.std.specs.Borrow.{Bor}
use Rattle.std.specs.Option.{option_map}
use Rattle.std.specs.declared.alloc.Global.{Global}
use Rattle.hc_merge.specs.Candidates as definition
use Rattle.hc_merge.specs.Overriding.{override_spot}
use Rattle.hc_model.specs.declared.section.Section.{Section}
use Rattle.hc_model.specs.declared.spot.Spot.{Spot}
use Rattle.hc_merge.specs.declared.candidate.Candidate.{Candidate}
use Rattle.hc_merge.specs.declared.candidate.Origin.{Origin}
use Rattle.hc_merge.specs.declared.candidate.Origin.TheVariants as origin
use Rattle.hc_merge.specs.declared.sections.Sections.{Sections}

abbrev pub spot_from : Origin → Spot
spot_from (origin.Section place span) = record { place = place.now; span = span }
spot_from (origin.Override dir) = override_spot dir.now

abbrev pub candidate_of : Candidate → definition.Candidate
candidate_of candidate = record {
  spot = spot_from candidate.origin;
  dir = option_map (λ dir. dir.now) candidate.dir;
  reach = option_map (λ reach. reach.now) candidate.reach;
  parent = candidate.parent;
  body = candidate.body.now;
}

abbrev pub candidates_of : Vec Candidate Global → List definition.Candidate
candidates_of candidates = map candidate_of candidates.items

-- The sections of the servers.
abbrev pub with_host : Option (Bor (List Section)) → List (List Section)
with_host None = []
with_host (Some host) = host.now ∷ []

abbrev pub sections_view : Sections → List (List Section)
sections_view sections = sections.main.now ∷ with_host sections.host
