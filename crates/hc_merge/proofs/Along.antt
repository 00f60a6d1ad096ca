-- What is gathered along a walk is what is allowed in each of its directories.
use Rattle.std.proofs.Common.{◌≡◌, ◌⊎◌, inl, inr, ℕ, List, [], ◌∷◌, ◌++◌, length, map}
use Rattle.std.proofs.Common.{take_while}
use Rattle.std.proofs.Common.{Bool, true, false, not, Option, Some, None, IsSome, if◌then◌else◌, ⊎_elim}
use Rattle.std.proofs.Common.{refl, sym, ap, subst, ◌∙◌, arith, find}
use Rattle.std.proofs.lemmas.Bool.{and_parts, eqb-true, lt-leb}
use Rattle.std.proofs.lemmas.List.{append-nil, append_assoc}
use Rattle.std.proofs.lemmas.List.Sums.{fold-append, take_while-cons}
use Rattle.std.specs.FinMap.{get}
use Rattle.std.specs.List.{flat_map}
use Rattle.hc_base.specs.Bytes.{slash}
use Rattle.hc_base.specs.Paths.{begins_with_slash, ends_with_slash, is_slash}
use Rattle.hc_model.specs.Node.{Node, is_dir}
use Rattle.hc_model.specs.Overrides.{Loaded}
use Rattle.hc_model.specs.Walking.{end_of, is_step_dir, steps, steps_of}
use Rattle.hc_model.specs.World.{IsWorld, World, fronts, parents, root}
use Rattle.hc_model.specs.declared.section.Allowed.{Allowed}
use Rattle.hc_model.specs.declared.section.Body.{out-Body}
use Rattle.hc_model.specs.declared.section.Section.{Section, out-Section}
use Rattle.hc_merge.specs.Candidates.{Path, sections_at, sections_of}
use Rattle.hc_merge.specs.Laws.{WantedAsAllowed}
use Rattle.hc_merge.specs.Overriding.{allowed_behind, allowed_by, nothing_allowed, wanted, wants}

-- ---- the same sections once more

abbrev AreAlike : List Section → Type 0
AreAlike sections = (one other : Allowed) → allowed_behind one sections ≡ allowed_behind other sections

abbrev SayNothing : List Section → Type 0
SayNothing sections = (so_far : Allowed) → allowed_behind so_far sections ≡ so_far

last_counts : (sections : List Section) → AreAlike sections ⊎ SayNothing sections
last_counts [] = inr (λ so_far. refl)
last_counts (section ∷ sections) = by (out-Body (out-Section section).body).allow refl (last_counts sections)
  where
    by : (line : Option Allowed) → (out-Body (out-Section section).body).allow ≡ line
        → AreAlike sections ⊎ SayNothing sections → AreAlike (section ∷ sections)
        ⊎ SayNothing (section ∷ sections)
    by (Some allowed) is rest = inl (λ one other. rw is refl)
    by None is (inl alike) = inl (λ one other. rw is (alike one other))
    by None is (inr none) = inr (λ so_far. rw is (none so_far))

twice : (so_far : Allowed) (sections : List Section)
    → allowed_behind (allowed_behind so_far sections) sections ≡ allowed_behind so_far sections
twice so_far sections = ⊎_elim (λ alike. alike _ so_far) (λ none. none _) (last_counts sections)

-- ---- along a walk

module _ (lists : List (List Section)) where
  abbrev own : Path → List Section
  own dir = sections_at lists dir

  abbrev allowed_at : Path → Allowed
  allowed_at dir = allowed_behind nothing_allowed (flat_map own (parents dir ++ dir ∷ []))

  abbrev each_wanted : List Path → List Loaded
  each_wanted dirs = flat_map (λ dir. wants dir (allowed_at dir)) dirs

  abbrev at_root : Allowed
  at_root = allowed_behind nothing_allowed (own root)

  -- So much is gathered before this front of a path.
  abbrev IsGathered : Path → Allowed → Type 0
  IsGathered seen so_far =
      (whole later : Path) → whole ≡ seen ++ later → begins_with_slash whole ≡ true
      → allowed_at whole ≡ allowed_behind so_far (flat_map own (fronts seen later ++ whole ∷ []))

  first_gathered : (b : ℕ) → IsGathered (b ∷ []) at_root
  first_gathered b whole [] is begins =
      let one : b ≡ slash = eqb-true b slash (sym (ap begins_with_slash is) ∙ begins) in
      rw (is, one, append-nil (own root)) (sym (twice nothing_allowed (own root)))
  first_gathered b whole (c ∷ later) is begins =
      rw (is, lt-leb (length (b ∷ c ∷ later)) 1 (omega arith))
      (fold-append allowed_by nothing_allowed (own root)
      (flat_map own (fronts (b ∷ []) (c ∷ later) ++ (b ∷ c ∷ later) ∷ [])))

  with_one : (so_far : Allowed) (dir : Path) (later : List Path) → allowed_at dir ≡ allowed_behind so_far (own dir)
      → wanted lists (allowed_behind so_far (own dir)) later ≡ each_wanted later
      → wanted lists so_far (dir ∷ later) ≡ each_wanted (dir ∷ later)
  with_one so_far dir later is rest =
      ap (λ allowed. wants dir allowed ++ wanted lists (allowed_behind so_far (own dir)) later) (sym is)
      ∙ ap (λ more. wants dir (allowed_at dir) ++ more) rest

  module _ (world : World) (is_world : IsWorld world) where
    abbrev Part : Type 0
    Part = Path × Path

    abbrev dirs_of : List Part → List Path
    dirs_of parts = map (λ part. part.0) (take_while (is_step_dir world) parts)

    abbrev AreAsAllowed : Allowed → List Path → Type 0
    AreAsAllowed so_far dirs = wanted lists so_far dirs ≡ each_wanted dirs

    is_there : (node : Option Node) → is_dir node ≡ true → IsSome node
    is_there None is = cc
    is_there (Some node) is = refl

    begins : (path : Path) → is_dir (get world path) ≡ true → begins_with_slash path ≡ true
    begins path dir =
        (and_parts _ _ (and_parts _ _ (is_world.keys_are_paths path (is_there (get world path) dir))).0).0

    with_part : (so_far : Allowed) (part : Part) (later : List Part)
        → (begins_with_slash part.0 ≡ true → allowed_at part.0 ≡ allowed_behind so_far (own part.0))
        → AreAsAllowed (allowed_behind so_far (own part.0)) (dirs_of later)
        → AreAsAllowed so_far (dirs_of (part ∷ later))
    with_part so_far part later gathered rest = by (is_dir (get world part.0)) refl
      where
        shape : (is : Bool) → is_dir (get world part.0) ≡ is → dirs_of (part ∷ later)
            ≡ map (λ part. part.0) (if is then part ∷ take_while (is_step_dir world) later else [])
        shape is test =
            ap (map (λ part. part.0))
            (take_while-cons (is_step_dir world) part later
            ∙ ap (λ is. if is then part ∷ take_while (is_step_dir world) later else []) test)

        by : (is : Bool) → is_dir (get world part.0) ≡ is → AreAsAllowed so_far (dirs_of (part ∷ later))
        by true is =
            subst (AreAsAllowed so_far) (sym (shape true is))
            (with_one so_far part.0 (dirs_of later) (gathered (begins part.0 is)) rest)
        by false is = subst (AreAsAllowed so_far) (sym (shape false is)) refl

    abbrev Along : Path → Path → Type 0
    Along seen rest = (so_far : Allowed) → IsGathered seen so_far → AreAsAllowed so_far (dirs_of (steps seen rest))

    here : (seen : Path) (so_far : Allowed) → IsGathered seen so_far → begins_with_slash seen ≡ true
        → allowed_at seen ≡ allowed_behind so_far (own seen)
    here seen so_far gathered begins =
        gathered seen [] (sym (append-nil seen)) begins ∙ ap (allowed_behind so_far) (append-nil (own seen))

    along : (seen rest : Path) → Along seen rest
    along seen [] so_far gathered = by (ends_with_slash seen) refl
      where
        by : (ends : Bool) → ends_with_slash seen ≡ ends → AreAsAllowed so_far (dirs_of (steps seen []))
        by true is = rw is refl
        by false is = rw is (with_part so_far (seen, []) [] (here seen so_far gathered) refl)
    along seen (b ∷ rest) so_far gathered = by (is_slash b) refl (along (seen ++ b ∷ []) rest)
      where
        by : (ends : Bool) → is_slash b ≡ ends → Along (seen ++ b ∷ []) rest
            → AreAsAllowed so_far (dirs_of (steps seen (b ∷ rest)))
        by true is further =
            rw is (with_part so_far (seen, b ∷ rest) (steps (seen ++ b ∷ []) rest) (here seen so_far gathered)
            (further (allowed_behind so_far (own seen)) (λ whole later same begins.
            let all = gathered whole (b ∷ later) (same ∙ append_assoc seen (b ∷ []) later) begins in
            (rw is at all) ∙ fold-append allowed_by so_far (own seen)
            (flat_map own (fronts (seen ++ b ∷ []) later ++ whole ∷ [])))))
        by false is further =
            rw is (further so_far (λ whole later same begins.
            let all = gathered whole (b ∷ later) (same ∙ append_assoc seen (b ∷ []) later) begins in
            rw is at all))

    from_root : (name : Path) → AreAsAllowed at_root (dirs_of (steps_of name))
    from_root [] = with_part at_root ([], []) [] (λ begins. cc) refl
    from_root (b ∷ rest) = along (b ∷ []) rest at_root (first_gathered b)

ended : (world : World) (name : Path) (part : Option (Path × Path)) (dirs : List Path)
    → (end_of world name part dirs).dirs ≡ dirs
ended world name None dirs = refl
ended world name (Some part) dirs = refl

pub wanted_as_allowed : WantedAsAllowed
wanted_as_allowed config host world name is_world =
    let lists = sections_of config host in
    let parts = steps_of name in
    rw (ended world name (find (λ part. not (is_step_dir world part)) parts)
    (root ∷ dirs_of lists world is_world parts))
    (with_one lists nothing_allowed root (dirs_of lists world is_world parts)
    (ap (allowed_behind nothing_allowed) (append-nil (own lists root))) (from_root lists world is_world name))
