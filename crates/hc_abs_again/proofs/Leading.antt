-- What is in force was found by a walk of a tidied name, the files of this walk and the sections that saw its pass.
use Rattle.hc_abs_again.proofs.Common.{◌≡◌, List, [], ◌∷◌, ℕ, true, false, refl, subst, Event}
use Rattle.hc_abs_again.proofs.Common.{Outcome, goes_on, run, Shown, Step, ends, ◌>>=◌, Site, Here, Pass}
use Rattle.hc_base.specs.Paths.{begins_with_slash, has_dots, has_double_slash, merge_slashes}
use Rattle.hc_merge.specs.Overriding.{Files_at, wanted_by}
use Rattle.hc_model.specs.declared.event.Event.TheVariants as event
use Rattle.hc_model.specs.declared.outcome.Outcome.TheVariants.{Outside}
use Rattle.hc_model.specs.declared.outcome.Reason.TheVariants.{DotSegment}
use Rattle.hc_model.specs.declared.walk.Walk.{Walk}
use Rattle.hc_rw_eval.specs.declared.run.Finished.{Finished}
unfoldable use Rattle.hc_serve.specs.Passing.{in_force, merged, reached_from, seen_there, sections_told, walked}
unfoldable use Rattle.hc_serve.specs.Passing.{without_dots}
use Rattle.hc_serve.specs.Passing.{files_looked, finished, force_at, name_of, told_each, with_force}
use Rattle.hc_serve.specs.declared.stage.Named.{Named}
use Rattle.hc_serve.specs.declared.stage.Walked.{Walked}
use Rattle.hc_steps.specs.Step.{told}
use Rattle.hc_steps.specs.Walking.{walk as followed}
use Rattle.hc_abs_segments.proofs.Merged.{begins_merged, single_merged}
use Rattle.hc_abs_segments.proofs.Once.{Gives, gives_either}
use Rattle.hc_abs_again.proofs.Coming.{Comes, comes_so, comes_then}
use Rattle.hc_abs_again.proofs.Naming.{IsRooted, NamedSo, PlacedSo, finished_gives, name_gives}

module _ (site : Site) (shown : Shown) (Of : List ℕ → Type 0) where
  -- A name without repeated slashes.
  pub record TidySo (own : Named) : Type 0 where
    pub query : Of own.pass.query
    pub begins : IsRooted site → begins_with_slash own.name ≡ true
    pub single : has_double_slash own.name ≡ false

  abbrev walk_from : List ℕ → Step Outcome Walk
  walk_from name = followed name

  abbrev files_of : Walk → Step Outcome Files_at
  files_of walk = files_looked site.config (wanted_by site.config site.host walk.dirs)

  pub record IsHere (here : Here) : Type 0 where
    pub name : List ℕ
    pub query : Of here.named.pass.query
    pub begins : IsRooted site → begins_with_slash name ≡ true
    pub single : has_double_slash name ≡ false
    pub walk : (run (walk_from name) shown).way ≡ goes_on here.walk
    pub files : Files_at
    pub looked : (run (files_of here.walk) shown).way ≡ goes_on files
    pub force : here.force ≡ force_at site (record { named = here.named; walk = here.walk }) files

  merged_gives : (own : Named) → NamedSo site Of own → Gives TidySo (merged own)
  unfolding merged without_dots
  merged_gives own is =
      let tidy : Named = record own { name = merge_slashes own.name } in
      gives_either TidySo (has_dots tidy.name) (ends (Outside DotSegment))
      (told (event.Map tidy.from tidy.name) tidy) tt (record {
        query = is.query;
        begins = λ rooted. begins_merged own.name (is.begins rooted);
        single = single_merged own.name;
      })

  -- It is where the walk of the name leads.
  abbrev WalkedSo : Named → Walked → Type 0
  WalkedSo own there = (own ≡ there.named) × ((run (walk_from own.name) shown).way ≡ goes_on there.walk)

  walked_comes : (own : Named) → Comes shown (WalkedSo own) (walked own)
  unfolding walked seen_there
  walked_comes own =
      comes_then shown (WalkedSo own) (walk_from own.name) (seen_there own) (λ walk is.
      comes_so shown (WalkedSo own) (seen_there own walk) (refl, is))

  told_gives : (events : List Event) (here : Here) → IsHere here → Gives {E = Outcome} IsHere (told_each events here)
  told_gives [] here is = is
  told_gives (event ∷ events) here is = told_gives events here is

  force_comes : (own : Named) → TidySo own → (there : Walked) → WalkedSo own there
      → Comes shown IsHere (in_force site there)
  unfolding in_force sections_told ◌>>=◌
  force_comes own tidy there so =
      comes_then shown IsHere (files_of there.walk) _ (λ files looked.
      let here = with_force there (force_at site there files) in
      comes_so shown IsHere (told_each here.force.sections here) (told_gives here.force.sections here (record {
        name = own.name;
        query = subst (λ (own : Named). Of own.pass.query) so.0 tidy.query;
        begins = tidy.begins;
        single = tidy.single;
        walk = so.1;
        files = files;
        looked = looked;
        force = refl;
      })))

  pub here_comes : (pass : Pass) (left : Finished) → Of left.left.state.query
      → Comes shown IsHere (finished site pass left >>= reached_from site)
  unfolding reached_from
  here_comes pass left seen =
      comes_then shown IsHere (finished site pass left) (reached_from site) (λ place is.
      comes_then shown IsHere (name_of site place) _ (λ named is_named.
      comes_then shown IsHere (merged named) _ (λ tidy is_tidy.
      let tidy_so = comes_so shown TidySo (merged named) (merged_gives named
      (comes_so shown (NamedSo site Of) (name_of site place) (name_gives site Of place
      (comes_so shown (PlacedSo site Of) (finished site pass left) (finished_gives site Of pass left seen) place is))
      named is_named)) tidy is_tidy in
      comes_then shown IsHere (walked tidy) (in_force site) (λ there is_there.
      force_comes tidy tidy_so there (walked_comes tidy there is_there)))))
