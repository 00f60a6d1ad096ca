-- Sections tested one by one come to what is in force.
use Rattle.hc_abs_pass.proofs.Common.{◌≡◌, ◌∙◌, ℕ, zero, suc, List, [], ◌∷◌, ◌++◌, Bool}
use Rattle.hc_abs_pass.proofs.Common.{true, false, ◌&&◌, ◌||◌, if◌then◌else◌, Option, Some, None}
use Rattle.hc_abs_pass.proofs.Common.{refl, sym, ap, ap₂, subst, ◌⊎◌, inl, inr, option_map, true≢false}
use Rattle.hc_abs_pass.proofs.Common.{append_assoc, append-nil, unwrap_or, State, ended, Plan, plan_run}
use Rattle.std.specs.Prelude.{slice_get}
use Rattle.std.specs.List.{fold}
use Rattle.hc_model.specs.Joined.{joined_behind}
use Rattle.hc_merge.specs.Order.{ordered_sections}
use Rattle.hc_abs_pass.specs.Sections.{SectionsAgree}
use Rattle.hc_merge.specs.Candidates.{Candidate, servers_merged}
use Rattle.hc_plan.specs.Slots.{Slot}
use Rattle.hc_dfa.specs.Texts.{TextSet}
use Rattle.hc_merge.specs.Reaching.{is_at, is_component_found, is_found}
use Rattle.hc_merge.specs.Reaching.{Chain, applies, chain_behind, holds_at, is_kept, kept_behind, kept_by, reaches}
use Rattle.hc_merge.specs.Reaching.{resolved}
use Rattle.hc_merge.specs.Rewriting.{no_rewriting, rewriting_behind, replaced}
use Rattle.hc_merge.specs.Settings.{merged, on_after, on_at_servers, redirects_of, require_behind}
use Rattle.hc_model.specs.declared.config.Config.{Config}
use Rattle.hc_model.specs.declared.config.HostId.{HostId}
use Rattle.hc_model.specs.declared.request.View.{View}
use Rattle.hc_model.specs.declared.section.Body.{Body, out-Body}
use Rattle.hc_model.specs.declared.section.Reach.{Reach}
use Rattle.hc_model.specs.declared.section.Reach.TheVariants.{Dir, DirSearch, Files, Location, LocationGlob}
use Rattle.hc_model.specs.declared.section.Reach.TheVariants.{LocationSearch, Otherwise, When}
use Rattle.hc_table.specs.declared.option_name.OptionName.{OptionName}
use Rattle.hc_table.specs.declared.option_name.OptionName.TheVariants.{FollowSymLinks, SymLinksIfOwnerMatch}
use Rattle.hc_abs_pass.specs.Sections.{AreNested, SameForce, Settles, StandsIn, bare, if_so, reach_plan, section_plan}
use Rattle.hc_abs_pass.specs.Sections.{sections_plan, tested_where}
use Rattle.hc_abs_pass.specs.Views.{Scene, Sees}
use Rattle.hc_abs_pass.proofs.Views.{expr_goes, seen_bare}

-- ---- tests

slot_goes : {A : Type 0} (s : State) (x y : List ℕ) (set : TextSet) (plan : Bool → Plan A) → x ≡ y
    → plan_run (plan (set x)) (bare s) ≡ plan_run (plan (set y)) (bare s)
slot_goes s x y set plan is = ap (λ x. plan_run (plan (set x)) (bare s)) is

module _ {A : Type 0} (scene : Scene) (view : View) (s : State) (sees : Sees scene view s) where
  reach_goes : (reach : Reach) (plan : Bool → Plan A)
      → plan_run (reach_plan scene reach plan) s ≡ plan_run (plan (reaches view reach)) (bare s)
  unfolding plan_run
  reach_goes (Dir pattern) plan = refl
  reach_goes (DirSearch pattern) plan =
      slot_goes s (s.slots Slot.Name ++ []) view.name (is_found pattern) plan (append-nil _ ∙ sees.name)
  reach_goes (Files pattern) plan =
      slot_goes s (s.slots Slot.Name ++ []) view.name (is_component_found pattern) plan (append-nil _ ∙ sees.name)
  reach_goes (Location path) plan = slot_goes s (s.slots Slot.Path ++ []) view.path (is_at path) plan (append-nil _
      ∙ sees.path)
  reach_goes (LocationGlob pattern) plan =
      slot_goes s (s.slots Slot.Path ++ []) view.path (is_found pattern) plan (append-nil _ ∙ sees.path)
  reach_goes (LocationSearch pattern) plan =
      slot_goes s (s.slots Slot.Path ++ []) view.path (is_found pattern) plan (append-nil _ ∙ sees.path)
  reach_goes (When expr) plan = expr_goes A scene view expr false plan s sees
  reach_goes (Otherwise expr) plan = expr_goes A scene view expr false plan s sees

  where_goes : (is : Bool) (reach : Reach) (plan : Bool → Plan A)
      → plan_run (tested_where is scene reach plan) s ≡ plan_run (plan (is && reaches view reach)) (bare s)
  unfolding plan_run
  where_goes true reach plan = reach_goes reach plan
  where_goes false reach plan = refl

module _ (merges : Body → Bool) (view : View) where
  taken_by : List Bool → Candidate → Option Reach → Bool
  taken_by marks candidate None = true
  taken_by marks candidate (Some reach) =
      (merges candidate.body && holds_at marks candidate.parent) && reaches view reach

  is_taken : List Bool → Chain → Candidate → Bool
  is_taken marks before candidate = taken_by marks candidate (option_map (resolved before) candidate.reach)

  taken_behind : List Bool → Chain → List Candidate → List Candidate
  taken_behind marks before [] = []
  taken_behind marks before (candidate ∷ candidates) =
      if_so merges (is_taken marks before candidate) candidate
      ++ taken_behind (marks ++ is_taken marks before candidate ∷ []) (chain_behind before candidate.reach) candidates

  module _ (scene : Scene) where
    section_goes : {A : Type 0} (marks : List Bool) (candidate : Candidate) (reach : Option Reach)
        (plan : Bool → Plan A) (s : State) → Sees scene view s
        → plan_run (section_plan merges scene marks candidate reach plan) s
        ≡ plan_run (plan (taken_by marks candidate reach)) (bare s)
    unfolding plan_run taken_by
    section_goes marks candidate None plan s sees = refl
    section_goes marks candidate (Some reach) plan s sees =
        where_goes scene view s sees (merges candidate.body && holds_at marks candidate.parent) reach plan

    sections_go : (candidates : List Candidate) (marks : List Bool) (before : Chain) (kept : List Candidate)
        (s : State) → Sees scene view s
        → plan_run (sections_plan merges scene marks before kept candidates) s
        ≡ ended (bare s) (kept ++ taken_behind marks before candidates)
    unfolding plan_run sections_plan taken_behind is_taken
    sections_go [] marks before kept s sees = ap (ended (bare s)) (sym (append-nil kept))
    sections_go (candidate ∷ candidates) marks before kept s sees =
        let is = is_taken marks before candidate in
        let chain = chain_behind before candidate.reach in
        section_goes marks candidate (option_map (resolved before) candidate.reach)
        (λ is. sections_plan merges scene (marks ++ is ∷ []) chain (kept ++ if_so merges is candidate) candidates) s
        sees
        ∙ sections_go candidates (marks ++ is ∷ []) chain (kept ++ if_so merges is candidate) (bare s)
        (seen_bare scene view s sees)
        ∙ ap (ended (bare s)) (append_assoc kept (if_so merges is candidate)
        (taken_behind (marks ++ is ∷ []) chain candidates))

  -- ---- what is left out merges nothing

  Fewer : List Candidate → List Candidate → Type 0
  Fewer fewer [] = fewer ≡ []
  Fewer fewer (candidate ∷ candidates) =
      ((rest : List Candidate) × (fewer ≡ candidate ∷ rest) × Fewer rest candidates)
      ⊎ ((merges candidate.body ≡ false) × Fewer fewer candidates)

  -- Marks by both, where a section that merges is marked alike.
  Alike : List Bool → List Bool → List Bool → Type 0
  Alike [] one other = (one ≡ []) × (other ≡ [])
  Alike (m ∷ ms) [] other = ⊥
  Alike (m ∷ ms) (a ∷ one) [] = ⊥
  Alike (m ∷ ms) (a ∷ one) (b ∷ other) = (m ≡ true → a ≡ b) × Alike ms one other

  alike_more : (ms one other : List Bool) (m a b : Bool) → Alike ms one other → (m ≡ true → a ≡ b)
      → Alike (ms ++ m ∷ []) (one ++ a ∷ []) (other ++ b ∷ [])
  unfolding Alike
  alike_more [] one other m a b alike same =
      subst (λ one. Alike (m ∷ []) (one ++ a ∷ []) (other ++ b ∷ [])) (sym alike.0)
      (subst (λ other. Alike (m ∷ []) (a ∷ []) (other ++ b ∷ [])) (sym alike.1) (same, (refl, refl)))
  alike_more (m' ∷ ms) [] other m a b alike same = absurd alike
  alike_more (m' ∷ ms) (a' ∷ one) [] m a b alike same = absurd alike
  alike_more (m' ∷ ms) (a' ∷ one) (b' ∷ other) m a b alike same =
      (alike.0, alike_more ms one other m a b alike.1 same)

  alike_at : (ms one other : List Bool) (place : ℕ) → Alike ms one other
      → unwrap_or (slice_get ms place) false ≡ true
      → unwrap_or (slice_get one place) false ≡ unwrap_or (slice_get other place) false
  unfolding Alike
  alike_at [] one other place alike there = absurd (true≢false (sym there))
  alike_at (m ∷ ms) [] other place alike there = absurd alike
  alike_at (m ∷ ms) (a ∷ one) [] place alike there = absurd alike
  alike_at (m ∷ ms) (a ∷ one) (b ∷ other) zero alike there = alike.0 there
  alike_at (m ∷ ms) (a ∷ one) (b ∷ other) (suc place) alike there = alike_at ms one other place alike.1 there

  -- Both marks of one section.
  module _ (ms one other : List Bool) (alike : Alike ms one other) (before : Chain) (candidate : Candidate)
      (stands : StandsIn merges ms candidate) where
    abbrev own_reach : Option Reach → Option Reach
    own_reach reach = option_map (resolved before) reach

    marked : (parent : Option ℕ) → candidate.parent ≡ parent → merges candidate.body ≡ true
        → holds_at one parent ≡ holds_at other parent
    marked None is does = refl
    marked (Some place) is does = alike_at ms one other place alike (stands.around does place is)

    same_mark : (reach : Option Reach) → candidate.reach ≡ reach → merges candidate.body ≡ true
        → taken_by one candidate (own_reach reach)
        ≡ (holds_at other candidate.parent && applies view (own_reach reach))
    unfolding taken_by
    same_mark None is does =
        sym (ap (λ parent. holds_at other parent && true) (stands.at_once is))
    same_mark (Some reach) is does =
        ap₂ (λ does holds. (does && holds) && reaches view (resolved before reach)) does
        (marked candidate.parent refl does)

    no_more : (reach : Option Reach) → candidate.reach ≡ reach → merges candidate.body ≡ false
        → taken_by one candidate (own_reach reach) ≡ true
        → (holds_at other candidate.parent && applies view (own_reach reach)) ≡ true
    unfolding taken_by
    no_more None is none taken = ap (λ parent. holds_at other parent && true) (stands.at_once is)
    no_more (Some reach) is none taken =
        absurd (true≢false (sym taken ∙ ap (λ does.
        (does && holds_at one candidate.parent) && reaches view (resolved before reach)) none))

    -- What goes on behind it, by both marks.
    more : (rest later : List Candidate) (m a b : Bool) → merges candidate.body ≡ m → (m ≡ true → a ≡ b)
        → (m ≡ false → a ≡ true → b ≡ true)
        → Fewer rest later
        → Fewer (if_so merges a candidate ++ rest) (if_so merges b candidate ++ later)
    unfolding Fewer
    more rest later m true true is same none fewer = inl (rest, refl, fewer)
    more rest later m false false is same none fewer = fewer
    more rest later true true false is same none fewer = absurd (true≢false (same refl))
    more rest later true false true is same none fewer = absurd (true≢false (sym (same refl)))
    more rest later false false true is same none fewer = inr (is, fewer)
    more rest later false true false is same none fewer = absurd (true≢false (sym (none refl refl)))

  fewer_behind : (candidates : List Candidate) (ms one other : List Bool) (before : Chain) → Alike ms one other
      → AreNested merges ms candidates
      → Fewer (taken_behind one before candidates) (kept_behind view other before candidates)
  unfolding taken_behind is_taken Fewer
  fewer_behind [] ms one other before alike nested = refl
  fewer_behind (candidate ∷ candidates) ms one other before alike nested =
      let taken = is_taken one before candidate in
      let kept = is_kept view other before candidate in
      let same = same_mark ms one other alike before candidate nested.0 candidate.reach refl in
      let rest = fewer_behind candidates (ms ++ merges candidate.body ∷ []) (one ++ taken ∷ [])
      (other ++ kept ∷ []) (chain_behind before candidate.reach)
      (alike_more ms one other (merges candidate.body) taken kept alike same) nested.1 in
      more ms one other alike before candidate nested.0 _ _ (merges candidate.body) taken kept refl same
      (no_more ms one other alike before candidate nested.0 candidate.reach refl) rest

  -- ---- what is merged

  same_fold : {B : Type 0} (f : B → Candidate → B)
      → ((so_far : B) (candidate : Candidate) → merges candidate.body ≡ false → f so_far candidate ≡ so_far)
      → (fewer kept : List Candidate) (so_far : B) → Fewer fewer kept → fold f so_far fewer ≡ fold f so_far kept
  unfolding Fewer
  same_fold f quiet fewer [] so_far is = ap (fold f so_far) is
  same_fold f quiet fewer (candidate ∷ kept) so_far (inl is) =
      ap (fold f so_far) is.1 ∙ same_fold f quiet is.0 kept (f so_far candidate) is.2
  same_fold f quiet fewer (candidate ∷ kept) so_far (inr is) =
      same_fold f quiet fewer kept so_far is.1
      ∙ ap (λ so_far. fold f so_far kept) (sym (quiet so_far candidate is.0))

  module _ (settles : Settles merges) where
    same_redirects : (fewer kept : List Candidate) → Fewer fewer kept → redirects_of fewer ≡ redirects_of kept
    unfolding Fewer
    same_redirects fewer [] is = ap redirects_of is
    same_redirects fewer (candidate ∷ kept) (inl is) =
        ap redirects_of is.1
        ∙ ap (λ later. later ++ (out-Body candidate.body).redirects) (same_redirects is.0 kept is.2)
    same_redirects fewer (candidate ∷ kept) (inr is) =
        same_redirects fewer kept is.1 ∙ sym (append-nil (redirects_of kept))
        ∙ ap (λ own. redirects_of kept ++ own) (sym (settles.redirects candidate.body is.0))

    module _ (config : Config) (host : HostId) (fewer kept : List Candidate) (is : Fewer fewer kept) where
      same_option : (option : OptionName) (on : Bool)
          → fold (λ on candidate. on_after option on (out-Body candidate.body).options)
          (on_at_servers option on (servers_merged config host)) fewer
          ≡ fold (λ on candidate. on_after option on (out-Body candidate.body).options)
          (on_at_servers option on (servers_merged config host)) kept
      same_option option on = same_fold _ (λ on candidate none. ap (on_after option on)
          (settles.options candidate.body none))
          fewer kept _ is

      same_rewriting : fold rewriting_behind no_rewriting fewer ≡ fold rewriting_behind no_rewriting kept
      same_rewriting = same_fold rewriting_behind
          (λ so_far candidate none. ap (λ does. if does then replaced so_far candidate else so_far)
          (settles.rewrites candidate.body none)) fewer kept no_rewriting is

      same_force : SameForce (merged config host fewer) (merged config host kept)
      same_force = record {
        follow = ap₂ (λ one other. one || other) (same_option FollowSymLinks true)
            (same_option SymLinksIfOwnerMatch false);
        require = same_fold require_behind
            (λ so_far candidate none. ap (λ own. joined_behind so_far own (out-Body candidate.body).merging)
            (settles.require candidate.body none)) fewer kept None is;
        engine = ap (λ found. found.engine) same_rewriting;
        dir = ap (λ found. found.dir) same_rewriting;
        base = ap (λ found. found.base) same_rewriting;
        rules = ap (λ found. found.rules) same_rewriting;
        redirects = same_redirects fewer kept is;
      }

pub sections_agree : SectionsAgree
unfolding Alike
sections_agree merges scene config host walk view files state settles nested sees =
    let candidates = ordered_sections config host files walk.dirs in (
      taken_behind merges view [] [] candidates,
      sections_go merges view scene candidates [] [] [] state sees,
      same_force merges view settles config host (taken_behind merges view [] [] candidates)
          (kept_by view candidates)
          (fewer_behind merges view candidates [] [] [] [] (refl, refl) nested),
    )
