-- That what the server's list leaves has a query of bytes.
use Rattle.hc_cert.proofs.Common.{◌≡◌, ◌∙◌, inl, inr, ℕ, List, [], ◌∷◌, Bool, true, false, Option, refl, sym, ap, subst}
use Rattle.hc_cert.proofs.Common.{◌⊎◌, true≢false}
use Rattle.hc_cert.proofs.Common.{AllByRecursion, None, Addr, NamedCell, Caller, Branch, AllFit, holds, Slot}
use Rattle.hc_cert.proofs.Common.{Tied}
use Rattle.std.proofs.Common.{Bor}
use Rattle.std.specs.List.{list_any}
use Rattle.std.specs.Option.{option_map}
use Rattle.hc_alias.specs.Mapping.{root_of}
use Rattle.hc_cells.specs.Cells.{HasEmptySlot as HasEmptyCell}
use Rattle.hc_map.specs.Maps.{look_up}
use Rattle.hc_model.specs.declared.rewrite.Rule.{Rule}
use Rattle.hc_named.specs.declared.names.Names.{Names}
use Rattle.hc_plan.proofs.Common.{and_both, and_left}
use Rattle.hc_serve.specs.ServerRules.{rules_of}
use Rattle.hc_vhost.specs.Servers.{servers_of}
use Rattle.hc_abs_again.specs.Bytes.{HasBytes, ServerHasBytes}
use Rattle.hc_abs_force.specs.Merging.{merges}
use Rattle.hc_abs_left.proofs.Framing.{frame_is, lent_frame}
use Rattle.hc_abs_left.specs.Grounds.{Stands}
use Rattle.hc_abs_left.specs.declared.ground.Ground.{Ground}
use Rattle.hc_abs_pass.specs.Listing.{AreListed, ListedFits}
use Rattle.hc_abs_pass.specs.declared.list.Listed.{Listed as ListedIn}
use Rattle.hc_abs_pass.specs.declared.list.SoFar.{SoFar as SoFarIn}
use Rattle.hc_abs_rw.specs.Around.{kind_in, texts_in}
use Rattle.hc_abs_rw.specs.Frames.{common}
use Rattle.hc_abs_rw.specs.Known.{frame_at}
use Rattle.hc_abs_rw.specs.Lists.{Listed}
use Rattle.hc_claim.specs.Asking.{Asked, HasEmptySlot}
use Rattle.hc_claim.specs.Walking.{Fits}
use Rattle.hc_cert.proofs.Branching.{empty_from, ground_is, rests}
use Rattle.hc_cert.specs.Cells.{known_in}
use Rattle.hc_cert.specs.Checking.{LeavesBytes, ground_in, is_dir}
use Rattle.hc_cert.specs.Coded.{HasServerBytes, IsReady, LeaveBytesIn, LeavesBytesIn, begun}

module _ (client : Option Addr) (caller : Caller) where
  is_of_bytes : (listed : ListedIn) (branch : Branch Listed) → ListedFits client caller listed branch → HasBytes branch.0
  is_of_bytes listed branch fits text held =
      and_both (and_left _ (holds listed.tied.cell Slot.Query text)
      (sym (ap (λ cell. cell Slot.Query text) fits.0.cell) ∙ held)) refl

  all_bytes : (found : List ListedIn) (branches : List (Branch Listed))
      → AllFit (ListedFits client caller) found branches → AllByRecursion (λ (branch : Branch Listed). HasBytes branch.0) branches
  all_bytes [] branches fit = subst (AllByRecursion (λ (branch : Branch Listed). HasBytes branch.0)) (sym fit) tt
  all_bytes (listed ∷ found) branches fit =
      subst (AllByRecursion (λ (branch : Branch Listed). HasBytes branch.0)) (sym fit.2)
      (is_of_bytes listed fit.0 fit.3, all_bytes found fit.1 fit.4)

-- What is walked in code is the server's list.
pub bytes_of_list : (ground : Ground) (root : Option (Bor (List ℕ))) (rules : List Rule) (so_far : SoFarIn) (tied : Tied)
    (found : List ListedIn) → Stands ground
    → option_map (λ root. root.now) root ≡ root_of (servers_of ground.config.now ground.host)
    → rules ≡ rules_of ground.config.now ground.host → so_far ≡ begun
    → AreListed (frame_at (λ around. kind_in around.world.now.files)
    (λ around. look_up around.maps.now (texts_in around.world.now.files)) (lent_frame ground root None))
    ground.client rules so_far tied found → HasServerBytes ground tied
bytes_of_list ground root rules so_far tied found stands same in_force begins are levels state whole =
    let lent = frame_at (λ around. kind_in around.world.now.files)
    (λ around. look_up around.maps.now (texts_in around.world.now.files)) (lent_frame ground root None) in
    let own = rules_of ground.config.now ground.host in
    let moved = subst (λ frame. AreListed frame ground.client own begun tied found)
    (frame_is ground root None levels merges stands same)
    (subst (λ so_far. AreListed lent ground.client own so_far tied found) begins
    (subst (λ rules. AreListed lent ground.client rules so_far tied found) in_force are)) state whole in
    (moved.0, moved.1, all_bytes ground.client (common ground.tests.now) found moved.0 moved.2)

-- ---- one cell

module _ (asked : Asked) (names : Names) (ground : Ground) (fits : Fits asked names ground) (own : NamedCell) where
  abbrev by_place : ℕ → Bool → Type 0
  by_place levels is = elim is [
    | true ↦ Unit {0}
    | false ↦ HasEmptySlot (known_in asked.scope own)
        ⊎ ServerHasBytes (ground_in asked levels names) (known_in asked.scope own)
  ]

  pub at_dir : is_dir own.at ≡ true → LeavesBytesIn asked names own
  at_dir is levels listed = subst (by_place levels) (sym is) tt

  at_other : is_dir own.at ≡ false → (levels : ℕ) → by_place levels false
      → LeavesBytes (ground_in asked levels names) asked.scope own
  at_other is levels other = subst (by_place levels) (sym is) other

  module _ (tied : Tied) (ready : IsReady own tied) where
    pub none_there : is_dir own.at ≡ false → HasEmptyCell tied.cell → LeavesBytesIn asked names own
    none_there is none levels listed = at_other is levels (inl (empty_from asked names ground fits own tied ready none))

    pub all_there : is_dir own.at ≡ false → Stands ground → ground.last ≡ false → HasServerBytes ground tied
        → LeavesBytesIn asked names own
    all_there is stands last has levels listed = at_other is levels (inr (
        subst (λ ground. ServerHasBytes ground (known_in asked.scope own)) (ground_is asked names ground fits stands last levels)
        (has levels (known_in asked.scope own) (rests asked names ground fits own tied ready))
        ))

-- ---- one cell after another

module _ (asked : Asked) (names : Names) where
  pub none_at_dir : (cells : List NamedCell) → list_any (λ own. is_dir own.at) cells ≡ false
      → LeaveBytesIn asked names cells
  none_at_dir cells none levels listed some = absurd (true≢false (sym some ∙ none))

  pub each_leaves : (cells : List NamedCell) → AllByRecursion (LeavesBytesIn asked names) cells
      → LeaveBytesIn asked names cells
  each_leaves cells each levels listed some = all_of cells each
    where
      all_of : (cells : List NamedCell) → AllByRecursion (LeavesBytesIn asked names) cells
          → AllByRecursion (LeavesBytes (ground_in asked levels names) asked.scope) cells
      all_of [] each = tt
      all_of (own ∷ cells) each = (each.0 levels listed, all_of cells each.1)
