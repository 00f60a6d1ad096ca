-- The sections that may be in force stand behind those around them.
use Rattle.std.proofs.Common.{◌≡◌, ◌∙◌, ℕ, zero, suc, ◌+◌, List, [], ◌∷◌, ◌++◌, length, map, Bool, true, false, ◌||◌}
use Rattle.std.proofs.Common.{if◌then◌else◌, Option, None, Some, refl, sym, ap, subst, arith, append_assoc, append-nil}
use Rattle.std.proofs.Common.{true≢false, unwrap_or}
use Rattle.std.specs.Prelude.{slice_get}
use Rattle.std.specs.List.{flat_map, list_any}
use Rattle.hc_merge.specs.Candidates.{Candidate, Path, at_directory, sections_at, sections_of, untested}
use Rattle.hc_merge.specs.Groups.{group_of, same_group}
use Rattle.hc_merge.specs.Order.{among_group, first_group, inside, inside_each, ordered_sections, tops, with_group}
use Rattle.hc_merge.specs.Overriding.{Files_at, allowed_behind, allows_nothing, nothing_allowed, override_at}
use Rattle.hc_merge.specs.Overriding.{override_of, overriding}
use Rattle.hc_model.specs.declared.config.Config.{Config}
use Rattle.hc_model.specs.declared.config.HostId.{HostId}
use Rattle.hc_model.specs.declared.expression.Expr.TheVariants.{Yes}
use Rattle.hc_model.specs.declared.section.Allowed.{Allowed}
use Rattle.hc_model.specs.declared.section.Body.{out-Body}
use Rattle.hc_model.specs.declared.section.HtFile.{HtFile}
use Rattle.hc_model.specs.declared.section.Reach.{Reach}
use Rattle.hc_model.specs.declared.section.Reach.TheVariants.{DirSearch, Files, Location, When}
use Rattle.hc_model.specs.declared.section.Section.{Section, out-Section}
use Rattle.hc_pattern.specs.Pattern.{empty}
use Rattle.hc_abs_pass.specs.Sections.{AreNested, StandsIn}
use Rattle.hc_abs_force.specs.Merging.{merges, section_merges}
use Rattle.hc_abs_force.proofs.Settling.{merges_around, section_by}

mark : Candidate → Bool
mark candidate = merges candidate.body

-- ---- marks of more sections

still_there : (marks more : List Bool) (place : ℕ) → unwrap_or (slice_get marks place) false ≡ true
    → unwrap_or (slice_get (marks ++ more) place) false ≡ true
still_there [] more place there = absurd (true≢false (sym there))
still_there (is ∷ marks) more zero there = there
still_there (is ∷ marks) more (suc place) there = still_there marks more place there

stands_longer : (marks more : List Bool) (candidate : Candidate) → StandsIn merges marks candidate
    → StandsIn merges (marks ++ more) candidate
stands_longer marks more candidate stands = record {
  at_once = stands.at_once;
  around = λ does parent is. still_there marks more parent (stands.around does parent is);
}

-- ---- lists of sections

AllStand : List Bool → List Candidate → Type 0
AllStand marks [] = Unit {0}
AllStand marks (candidate ∷ candidates) = StandsIn merges marks candidate × AllStand marks candidates

all_longer : (marks more : List Bool) (candidates : List Candidate) → AllStand marks candidates
    → AllStand (marks ++ more) candidates
unfolding AllStand
all_longer marks more [] all = tt
all_longer marks more (candidate ∷ candidates) all =
    (stands_longer marks more candidate all.0, all_longer marks more candidates all.1)

both_stand : (marks : List Bool) (one other : List Candidate) → AllStand marks one → AllStand marks other
    → AllStand marks (one ++ other)
unfolding AllStand
both_stand marks [] other first rest = rest
both_stand marks (candidate ∷ one) other first rest = (first.0, both_stand marks one other first.1 rest)

nested : (marks : List Bool) (candidates : List Candidate) → AllStand marks candidates
    → AreNested merges marks candidates
unfolding AllStand
nested marks [] all = tt
nested marks (candidate ∷ candidates) all =
    (all.0, nested (marks ++ merges candidate.body ∷ []) candidates (all_longer marks _ candidates all.1))

nested_more : (marks : List Bool) (earlier later : List Candidate) → AreNested merges marks earlier
    → AllStand (marks ++ map mark earlier) later → AreNested merges marks (earlier ++ later)
unfolding mark
nested_more marks [] later is all = nested marks later (subst (λ marks. AllStand marks later) (append-nil marks) all)
nested_more marks (candidate ∷ earlier) later is all = (
  is.0,
  nested_more (marks ++ merges candidate.body ∷ []) earlier later is.1
      (subst (λ marks. AllStand marks later)
      (sym (append_assoc marks (merges candidate.body ∷ []) (map mark earlier))) all),
)

-- ---- the first group

at_once : (marks : List Bool) (candidate : Candidate) → candidate.parent ≡ None → StandsIn merges marks candidate
at_once marks candidate none = record {
  at_once = λ first. none;
  around = λ does parent is. absurd (let some = sym none ∙ is in cc);
}

directories_stand : (marks : List Bool) (dir : Path) (sections : List Section)
    → AllStand marks (map (at_directory dir) sections)
unfolding AllStand
directories_stand marks dir [] = tt
directories_stand marks dir (section ∷ sections) =
    (at_once marks (at_directory dir section) refl, directories_stand marks dir sections)

file_stands : (marks : List Bool) (dir : Path) (file : Option HtFile) → AllStand marks (overriding dir file)
unfolding AllStand
file_stands marks dir None = tt
file_stands marks dir (Some file) = (at_once marks (override_of dir file) refl, tt)

override_stands : (marks : List Bool) (files : Files_at) (dir : Path) (allowed : Allowed)
    → AllStand marks (override_at files dir allowed)
unfolding AllStand
override_stands marks files dir allowed = by (allows_nothing allowed)
  where
    by : (nothing : Bool) → AllStand marks (if nothing then [] else overriding dir (files dir allowed))
    by true = tt
    by false = file_stands marks dir (files dir allowed)

first_stand : (marks : List Bool) (lists : List (List Section)) (files : Files_at) (so_far : Allowed)
    (dirs : List Path) → AllStand marks (first_group lists files so_far dirs)
unfolding AllStand
first_stand marks lists files so_far [] = tt
first_stand marks lists files so_far (dir ∷ dirs) =
    let allowed = allowed_behind so_far (sections_at lists dir) in
    both_stand marks (map (at_directory dir) (sections_at lists dir) ++ override_at files dir allowed)
    (first_group lists files allowed dirs)
    (both_stand marks (map (at_directory dir) (sections_at lists dir)) (override_at files dir allowed)
    (directories_stand marks dir (sections_at lists dir)) (override_stands marks files dir allowed))
    (first_stand marks lists files allowed dirs)

-- ---- the other groups

-- Outside of all others, and inside one.
untested_stands : (marks : List Bool) (parent : Option ℕ) (section : Section)
    → ((place : ℕ) → section_merges section ≡ true → parent ≡ Some place
    → unwrap_or (slice_get marks place) false ≡ true)
    → StandsIn merges marks (untested parent section)
untested_stands marks parent section around = record {
  at_once = λ first. absurd (let none = first in cc);
  around = λ does place is. around place (section_by section ∙ does) is;
}

tops_stand : (marks : List Bool) (reach : Reach) (sections : List Section) → AllStand marks (tops (group_of reach) sections)
unfolding AllStand
tops_stand marks reach [] = tt
tops_stand marks reach (section ∷ sections) =
    by (same_group (group_of reach) (group_of (out-Section section).reach)) (tops_stand marks reach sections)
  where
    by : (is : Bool) → AllStand marks (map (untested None) (among_group (group_of reach) sections))
        → AllStand marks (map (untested None) (if is then section ∷ among_group (group_of reach) sections
        else among_group (group_of reach) sections))
    by true rest =
        (untested_stands marks None section (λ place does is. absurd (let none = is in cc)), rest)
    by false rest = rest

all_tops_stand : (marks : List Bool) (reach : Reach) (lists : List (List Section))
    → AllStand marks (flat_map (tops (group_of reach)) lists)
unfolding AllStand
all_tops_stand marks reach [] = tt
all_tops_stand marks reach (sections ∷ lists) =
    both_stand marks (tops (group_of reach) sections) (flat_map (tops (group_of reach)) lists) (tops_stand marks reach sections)
    (all_tops_stand marks reach lists)

module _ (marks : List Bool) (reach : Reach) (place : ℕ) where
  inner_stand : (sections : List Section)
      → (list_any section_merges sections ≡ true → unwrap_or (slice_get marks place) false ≡ true)
      → AllStand marks (map (untested (Some place)) (among_group (group_of reach) sections))
  unfolding AllStand
  inner_stand [] around = tt
  inner_stand (section ∷ sections) around =
      by (same_group (group_of reach) (group_of (out-Section section).reach))
      (inner_stand sections (λ some. around (ap (λ rest. section_merges section || rest) some ∙ or_true (section_merges section))))
    where
      or_true : (is : Bool) → (is || true) ≡ true
      or_true true = refl
      or_true false = refl

      own : (other : ℕ) → section_merges section ≡ true → Some place ≡ Some other
          → unwrap_or (slice_get marks other) false ≡ true
      own other does is =
          subst (λ at. unwrap_or (slice_get marks at) false ≡ true) (ap (λ held. unwrap_or held place) is)
          (around (ap (λ own. own || list_any section_merges sections) does))

      by : (is : Bool) → AllStand marks (map (untested (Some place)) (among_group (group_of reach) sections))
          → AllStand marks (map (untested (Some place)) (if is then section ∷ among_group (group_of reach) sections
          else among_group (group_of reach) sections))
      by true rest = (untested_stands marks (Some place) section own, rest)
      by false rest = rest

mark_at : (front : List Bool) (is : Bool) (rest : List Bool) → is ≡ true
    → unwrap_or (slice_get (front ++ is ∷ rest) (length front)) false ≡ true
mark_at [] is rest true_is = true_is
mark_at (first ∷ front) is rest true_is = mark_at front is rest true_is

longer : (front : List Bool) (is : Bool) → length (front ++ is ∷ []) ≡ length front + 1
longer [] is = refl
longer (first ∷ front) is = ap suc (longer front is) ∙ omega arith

each_inside : (reach : Reach) (front : List Bool) (candidates : List Candidate)
    → AllStand (front ++ map mark candidates) (inside_each (group_of reach) (length front) candidates)
unfolding AllStand mark
each_inside reach front [] = tt
each_inside reach front (candidate ∷ candidates) =
    let marks : List Bool = front ++ merges candidate.body ∷ map mark candidates in
    both_stand marks (inside (group_of reach) (length front) candidate) (inside_each (group_of reach) (length front + 1) candidates)
    (inner_stand marks reach (length front) (out-Body candidate.body).inner
    (λ some. mark_at front (merges candidate.body) (map mark candidates) (merges_around candidate.body some)))
    (subst (λ place. AllStand marks (inside_each (group_of reach) place candidates)) (longer front (merges candidate.body))
    (subst (λ marks. AllStand marks (inside_each (group_of reach) (length (front ++ merges candidate.body ∷ [])) candidates))
    (append_assoc front (merges candidate.body ∷ []) (map mark candidates))
    (each_inside reach (front ++ merges candidate.body ∷ []) candidates)))

group_nested : (lists : List (List Section)) (earlier : List Candidate) (reach : Reach)
    → AreNested merges [] earlier → AreNested merges [] (with_group lists earlier (group_of reach))
group_nested lists earlier reach is =
    let outside = flat_map (tops (group_of reach)) lists in
    let within = inside_each (group_of reach) 0 earlier in
    subst (AreNested merges []) (sym (append_assoc earlier outside within))
    (nested_more [] earlier (outside ++ within) is
    (both_stand (map mark earlier) outside within (all_tops_stand (map mark earlier) reach lists)
    (each_inside reach [] earlier)))

-- Each group is that of some section.
pub all_nested : (config : Config) (host : HostId) (files : Files_at) (dirs : List Path)
    → AreNested merges [] (ordered_sections config host files dirs)
all_nested config host files dirs =
    let lists = sections_of config host in
    let first = first_group lists files nothing_allowed dirs in
    let names = with_group lists first (group_of (DirSearch empty)) in
    let components = with_group lists names (group_of (Files empty)) in
    let urls = with_group lists components (group_of (Location [])) in
    group_nested lists urls (When Yes)
    (group_nested lists components (Location [])
    (group_nested lists names (Files empty)
    (group_nested lists first (DirSearch empty)
    (nested [] first (first_stand [] lists files nothing_allowed dirs)))))
