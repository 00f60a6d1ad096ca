-- The `.htaccess` files of a walk: those that are wanted, and where they stand.
use Rattle.std.proofs.Common.{◌≡◌, ℕ, ◌+◌, ◌<◌, List, [], ◌∷◌, ◌++◌, length, drop, get_or}
use Rattle.std.proofs.Common.{map, Bool, true, false, if◌then◌else◌, refl, ap, sym, ◌∙◌}
use Rattle.std.proofs.lemmas.List.{append_assoc, drop_more}
use Rattle.std.specs.List.{fold}
use Rattle.hc_model.specs.Overrides.{Loaded}
use Rattle.hc_model.specs.declared.section.Allowed.{Allowed}
use Rattle.hc_model.specs.declared.section.Section.{Section}
use Rattle.hc_merge.specs.Candidates.{Candidate, Path, at_directory, sections_at, sections_of}
use Rattle.hc_merge.specs.Laws.{WantedFilesSuffice}
use Rattle.hc_merge.specs.Order.{first_group, with_group}
use Rattle.hc_merge.specs.Overriding.{AgreeAt, AreLoaded, Files_at, allowed_behind, allows_nothing, nothing_allowed}
use Rattle.hc_merge.specs.Overriding.{override_at, overriding, wanted, wants}
use Rattle.hc_merge.specs.Reaching.{kept_by}
use Rattle.hc_merge.specs.Settings.{merged}
use Rattle.hc_merge.specs.declared.group.Group.TheVariants.{Components, Conditions, Names, Urls}

pub loaded_parts : (loaded xs ys : List Loaded) → AreLoaded loaded (xs ++ ys) → AreLoaded loaded xs
    × AreLoaded loaded ys
loaded_parts loaded [] ys are = (tt, are)
loaded_parts loaded (x ∷ xs) ys are = let parts = loaded_parts loaded xs ys are.1 in ((are.0, parts.0), parts.1)

-- ---- one directory more

module _ (lists : List (List Section)) (dirs : List Path) (at : ℕ) (dir : Path) (so_far later : Allowed)
    (within : at < length dirs) (item : dir ≡ get_or dirs at dir)
    (now : later ≡ allowed_behind so_far (sections_at lists dir)) where
  pub wanted_here : wanted lists so_far (drop at dirs) ≡ wants dir later ++ wanted lists later (drop (at + 1) dirs)
  wanted_here =
      let behind = drop (at + 1) dirs in
      ap (wanted lists so_far) (drop_more dirs at dir within ∙ ap (λ d. d ∷ behind) (sym item))
      ∙ ap (λ allowed. wants dir allowed ++ wanted lists allowed behind) (sym now)

  pub more_first : (files : Files_at) (all list own after : List Candidate)
      → all ≡ list ++ first_group lists files so_far (drop at dirs)
      → own ≡ list ++ map (at_directory dir) (sections_at lists dir)
      → after ≡ own ++ override_at files dir later
      → all ≡ after ++ first_group lists files later (drop (at + 1) dirs)
  more_first files all list own after is sections override =
      let behind = drop (at + 1) dirs in
      let here = map (at_directory dir) (sections_at lists dir) in
      let there = override_at files dir later in
      let rest = first_group lists files later behind in
      is ∙ ap (λ more. list ++ more)
      (ap (first_group lists files so_far) (drop_more dirs at dir within ∙ ap (λ d. d ∷ behind) (sym item))
      ∙ ap (λ allowed. here ++ override_at files dir allowed ++ first_group lists files allowed behind) (sym now))
      ∙ sym (append_assoc list (here ++ there) rest)
      ∙ ap (λ front. front ++ rest) (sym (append_assoc list here there) ∙ ap (λ own. own ++ there) (sym sections)
      ∙ sym override)

-- ---- files that agree where they are wanted

module _ (one other : Files_at) where
  agree_here : (dir : Path) (allowed : Allowed) (none : Bool) (behind : List Loaded)
      → AgreeAt one other ((if none then [] else record { dir = dir; allowed = allowed } ∷ []) ++ behind)
      → ((if none then [] else overriding dir (one dir allowed))
      ≡ (if none then [] else overriding dir (other dir allowed))) × AgreeAt one other behind
  agree_here dir allowed true behind agree = (refl, agree)
  agree_here dir allowed false behind agree = (ap (overriding dir) agree.0, agree.1)

  same_first : (lists : List (List Section)) (so_far : Allowed) (dirs : List Path)
      → AgreeAt one other (wanted lists so_far dirs) → first_group lists one so_far dirs
      ≡ first_group lists other so_far dirs
  same_first lists so_far [] agree = refl
  same_first lists so_far (dir ∷ dirs) agree =
      let own = sections_at lists dir in
      let later = allowed_behind so_far own in
      let here = agree_here dir later (allows_nothing later) (wanted lists later dirs) agree in
      ap (λ files. map (at_directory dir) own ++ files ++ first_group lists one later dirs) here.0
      ∙ ap (λ rest. map (at_directory dir) own ++ override_at other dir later ++ rest)
      (same_first lists later dirs here.1)

pub wanted_files_suffice : WantedFilesSuffice
wanted_files_suffice config host walk view one other agree =
    ap (λ first. merged config host
    (kept_by view
    (fold (with_group (sections_of config host)) first (Names ∷ Components ∷ Urls ∷ Conditions ∷ []))))
    (same_first one other (sections_of config host) nothing_allowed walk.dirs agree)
