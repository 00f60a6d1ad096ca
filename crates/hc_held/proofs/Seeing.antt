-- That the sections see a query of bytes where a directory's list may go on.
use Rattle.std.proofs.Common.{◌≡◌, ◌∙◌, ◌⊎◌, inl, inr, List, [], ◌∷◌, ◌||◌, true, false}
use Rattle.std.proofs.Common.{refl, sym, ap, subst}
use Rattle.std.proofs.Math.Bool.{or-true}
use Rattle.std.specs.List.{AllByRecursion, list_any}
use Rattle.hc_invariant.specs.declared.cut.Cut.{Cut as Named}
use Rattle.hc_invariant.specs.declared.cut.Cut.TheVariants as named
use Rattle.hc_invariant.specs.declared.named.NamedCell.{NamedCell}
use Rattle.hc_plan.proofs.Common.{and_both, and_left}
use Rattle.hc_plan.specs.Cover.{Among}
use Rattle.hc_plan.specs.Running.{State}
use Rattle.hc_serve.specs.Segments.{Cut, at_pass, dir_round, segment, server_round}
use Rattle.hc_steps.specs.Run.{goes_on, run}
use Rattle.hc_abs_again.specs.Arriving.{SeesBytes, StandsAt, WasReached}
use Rattle.hc_abs_again.specs.Bytes.{HasBytes, ServerHasBytes}
use Rattle.hc_abs_force.specs.Merging.{merges}
use Rattle.hc_cert.specs.Claims.{HasEmptySlot}
use Rattle.hc_cert.specs.Cells.{known_in, same_cut}
use Rattle.hc_cert.specs.Checking.{LeavesBytes, is_dir}
use Rattle.hc_held.proofs.Arrivals.{Basis, IsAccepted, ground_on}
use Rattle.hc_abs_again.proofs.Bytes.{branches_see_bytes}
use Rattle.hc_abs_again.proofs.Reached.{segments_reach}
use Rattle.hc_held.proofs.Lying.{Stands, cut_of, filled, same_named}

all_so : {A : Type 0} (P : A → Type 0) (all : List A) → AllByRecursion P all → (own : A) → Among own all
    → P own
all_so P [] are own among = absurd among
all_so P (first ∷ all) are own (inl same) = subst P (sym same) are.0
all_so P (first ∷ all) are own (inr among) = all_so P all are.1 own among

-- A cell is at a directory's list.
abbrev HasDir : List NamedCell → Type 0
HasDir cells = list_any (λ own. is_dir own.at) cells ≡ true

has_dir : (cells : List NamedCell) (own : NamedCell) → Among own cells → is_dir own.at ≡ true → HasDir cells
has_dir [] own among is = absurd among
has_dir (first ∷ cells) own (inl same) is =
    ap (λ one. one || list_any (λ own. is_dir own.at) cells)
    (ap (λ (own : NamedCell). is_dir own.at) (sym same) ∙ is)
has_dir (first ∷ cells) own (inr among) is =
    ap (λ rest. is_dir first.at || rest) (has_dir cells own among is) ∙ or-true (is_dir first.at)

module _ (basis : Basis) (accepted : IsAccepted basis) (own : NamedCell) (among : Among own basis.cells) (cut : Cut)
    (state : State) (stands : Stands basis.site basis.shown basis.scope own cut state) where
  abbrev AreBytes : Type 0
  AreBytes = HasEmptySlot (known_in basis.scope own) ⊎ ServerHasBytes (ground_on basis) (known_in basis.scope own)

  has_bytes : HasBytes (known_in basis.scope own)
  has_bytes text is = and_both (and_left _ _ is) refl

  by_server : (at : Cut) → StandsAt basis.site at state → AreBytes → SeesBytes basis.site basis.shown at
  by_server at there (inl empty) = absurd (filled basis.scope own state stands.covers empty)
  by_server at there (inr bytes) =
      branches_see_bytes basis.site at basis.shown basis.levels merges basis.names (known_in basis.scope own) state
      there stands.covers has_bytes bytes

  abbrev LeavesAt : Named → Type 0
  LeavesAt at = elim (is_dir at) [ true ↦ Unit {0} | false ↦ AreBytes ]

  sees : (at : Cut) → StandsAt basis.site at state → LeavesAt (cut_of at) → SeesBytes basis.site basis.shown at
  sees (at_pass left) there bytes = by_server (at_pass left) there bytes
  sees (server_round pass round next) there bytes = by_server (server_round pass round next) there bytes
  sees (dir_round here dir round next) there bytes = tt

  -- A directory's list goes on only where a cell is there.
  pub reached_next : (to : Cut) → (run (segment basis.site cut) basis.shown).way ≡ goes_on to → (next : NamedCell)
      → Among next basis.cells → same_cut next.at (cut_of to) ≡ true → WasReached basis.site basis.shown to
  reached_next (dir_round here dir round later) on next there lies =
      let some = has_dir basis.cells next there (ap is_dir (same_named next.at (named.Dir dir) lies)) in
      let leaves = all_so (LeavesBytes (ground_on basis) basis.scope) basis.cells (accepted.bytes some) own among in
      segments_reach basis.site cut (dir_round here dir round later) basis.shown stands.reached
      (sees cut stands.stands (subst LeavesAt (same_named own.at (cut_of cut) stands.at) leaves)) on
  reached_next (at_pass left) on next there lies = tt
  reached_next (server_round pass round later) on next there lies = tt
