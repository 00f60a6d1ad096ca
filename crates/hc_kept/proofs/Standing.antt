-- What is still current after an accepted edit was so before it, and shows the same.
use Rattle.std.proofs.Common.{◌≡◌, ◌⊎◌, inl, inr, ℕ, ◌<◌, ◌≤◌, ◌&&◌, List, [], ◌∷◌}
use Rattle.std.proofs.Common.{Bool, true, false, nat_le, refl, sym, ap, subst, ◌∙◌, arith}
use Rattle.std.specs.List.{Contains}
use Rattle.std.proofs.lemmas.Bool.Decides.{nat_tests}
use Rattle.hc_cache.specs.Entries.{is_current}
use Rattle.hc_claim_lines.specs.ClaimLines.{claim_lines}
use Rattle.hc_config.specs.Configuration.{built}
use Rattle.hc_htaccess.specs.Loading.{answer_of}
use Rattle.hc_htaccess.specs.Reading.{found_there}
use Rattle.hc_include.specs.Flat.{flat_by, flat_of, main_read}
use Rattle.hc_merge.specs.Overriding.{htaccess_of}
use Rattle.hc_model.specs.World.{World}
use Rattle.hc_model.specs.declared.config.Config.{Config}
use Rattle.hc_model.specs.declared.read.Read.{Read}
use Rattle.hc_model.specs.declared.read.Read.TheVariants.{TextOf}
use Rattle.hc_steps.specs.Laws.{AgreeOn}
use Rattle.hc_steps.specs.Run.{run}
use Rattle.hc_steps.specs.Shown.{shown_by}
use Rattle.hc_steps.specs.Step.{Path}
use Rattle.hc_steps.proofs.Kept.{each_is_kept}
use Rattle.hc_steps.proofs.Running.{agreement}
use Rattle.hc_world.specs.Edits.{Edited, IsAccepted, IsMarked, changed_at}
use Rattle.hc_kept.specs.Files.{IsFileOf, KeptFile}
use Rattle.hc_kept.specs.Site.{IsSiteOf, configuration}
use Rattle.hc_kept.specs.declared.site.Site.{Site}
use Rattle.hc_kept.proofs.Entries.{first, first_or_behind}

both : (a b : Bool) → a && b ≡ true → (a ≡ true) × (b ≡ true)
both true b is = (refl, is)
both false b is = cc

module _ {old new : Edited} (accepted : IsAccepted old new) {at : ℕ} (age : at ≤ old.edits) where
  beyond : (n : ℕ) → at < n → nat_le n at ≡ true → ⊥
  beyond n more is = grind (arith, nat_tests)

  record Stays (read : Read) : Type 0 where
    pub was : nat_le (changed_at old read) at ≡ true
    pub shows : shown_by old.files read ≡ shown_by new.files read

  read_stays : (read : Read) → nat_le (changed_at new read) at ≡ true → Stays read
  read_stays read is = by (accepted.marked read)
    where
      by : IsMarked old new read → Stays read
      by (inl (same, last)) = record { was = ap (λ n. nat_le n at) (sym last) ∙ is; shows = sym same }
      by (inr (differs, last)) = absurd (beyond (changed_at new read) (omega (arith, last, accepted.counted)) is)

  pub current_stays : (reads : List Read) → is_current new reads at ≡ true → (is_current old reads at ≡ true)
      × AgreeOn (shown_by old.files) (shown_by new.files) reads
  current_stays [] is = (refl, λ read (n, below, _). absurd (omega (arith, below)))
  current_stays (read ∷ reads) is =
      let parts = both _ _ is in
      let one = read_stays read parts.0 in
      let rest = current_stays reads parts.1 in
      (rw (one.was, rest.0) refl, λ other has. on other one.shows rest.1 (first_or_behind read reads other has))
    where
      on : (other : Read) → shown_by old.files read ≡ shown_by new.files read
          → AgreeOn (shown_by old.files) (shown_by new.files) reads
          → (read ≡ other) ⊎ Contains reads other → shown_by old.files other ≡ shown_by new.files other
      on other shows rest (inl is) = subst (λ r. shown_by old.files r ≡ shown_by new.files r) is shows
      on other shows rest (inr has) = rest other has

pub flat_stays : (main : Path) (one other : World) → AgreeOn (shown_by one) (shown_by other) (flat_of one main).reads
    → flat_of one main ≡ flat_of other main
unfolding flat_of
flat_stays main one other agree =
    let reads = (run (main_read main) (shown_by one)).reads in
    ap (flat_by main)
    (agreement (main_read main) (shown_by one) (shown_by other)
    (λ read is. agree read (each_is_kept reads read is)))

module _ {old new : Edited} (accepted : IsAccepted old new) where
  pub file_stays : {config : Config} (file : KeptFile) → IsFileOf old config file → IsFileOf new config file
  file_stays {config} file was = record {
    age = omega (arith, was.age, accepted.counted);
    found = λ current.
        let text = TextOf (htaccess_of file.dir) in
        let stays = current_stays accepted was.age (text ∷ []) current in
        was.found stays.0 ∙ ap (λ found. answer_of (found_there config file.dir file.allowed found))
        (stays.1 text (first text [] text refl));
  }

  pub site_stays : (site : Site) → IsSiteOf old site → IsSiteOf new site
  unfolding configuration
  site_stays site was = record {
    age = omega (arith, was.age, accepted.counted);
    built = λ current. was.built (before current).0 ∙ ap built (flat current);
    lines = λ current. was.lines (before current).0 ∙ ap (λ f. claim_lines f.entries) (flat current);
    reads = λ current. was.reads (before current).0 ∙ ap (λ f. f.reads) (flat current);
    files = λ config is file has. file_stays file (was.files config is file has);
  }
    where
      before : is_current new site.reads site.at ≡ true → (is_current old site.reads site.at ≡ true)
          × AgreeOn (shown_by old.files) (shown_by new.files) site.reads
      before current = current_stays accepted was.age site.reads current

      flat : is_current new site.reads site.at ≡ true → flat_of old.files site.main ≡ flat_of new.files site.main
      flat current =
          let stays = before current in
          flat_stays site.main old.files new.files
          (subst (AgreeOn (shown_by old.files) (shown_by new.files)) (was.reads stays.0) stays.1)
