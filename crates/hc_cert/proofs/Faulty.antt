-- The first branch that is at fault.
use Rattle.hc_cert.proofs.Common.{◌≡◌, ◌∙◌, inl, inr, ℕ, ◌+◌, List, [], ◌∷◌, true, false, Option, Some, None}
use Rattle.hc_cert.proofs.Common.{refl, sym, ap, subst, true≢false, Addr, TextSet, Cut, NamedCell, Caller, Branch}
use Rattle.hc_cert.proofs.Common.{AllFit}
use Rattle.hc_cert.proofs.Common.{cell_of, Slot, SegmentFits, SegmentIn, Segment}
use Rattle.hc_cert.specs.Cells.{Belongs, Lacks, led_to}
use Rattle.hc_cert.specs.Checking.{FirstIn, FirstOf, Walked}
use Rattle.hc_cert.specs.Coded.{FaultIn, IsFaultOf, MayBreakIn, WalkedFits, ends_out, grows_in, led_in, named_in}
use Rattle.hc_cert.specs.Conditions.{grows}
use Rattle.hc_cert.specs.declared.faults.Scene.{Scene}
use Rattle.hc_cert.specs.declared.verdict.Condition.{Condition}
use Rattle.hc_cert.specs.declared.verdict.Condition.TheVariants as condition
use Rattle.hc_cert.specs.declared.verdict.Found.{Found}
use Rattle.hc_cert.specs.declared.verdict.Rejection.{Rejection}
use Rattle.hc_cert.specs.declared.walking.Walked.{Walked as WalkedIn}
use Rattle.hc_cert.proofs.Lying.{belongs_one}
use Rattle.hc_cert.proofs.Judged.{break_bad, grows_is, led_is, none_bad, out_bad}

none_some : {A : Type 0} (x : A) → ◌≡◌ {A = Option A} None (Some x) → ⊥
none_some x is = let e = is in cc

some_one : {A : Type 0} (x y : A) → Some x ≡ Some y → x ≡ y
some_one x y is = ap (λ found. elim found [ Some z ↦ z | None ↦ x ]) is

module _ (scene : Scene) (from : NamedCell) (own : SegmentIn) where
  abbrev cells : List NamedCell
  cells = named_in scene.cells.now

  abbrev states : Slot → TextSet
  states = cell_of (own.tied).cell

  module _ (client : Option Addr) (caller : Caller) (branch : Branch Segment)
      (fits : SegmentFits client caller own branch) where
    led_by : led_to (branch.1).finish ≡ led_in own.finish
    led_by = led_is caller own.finish (branch.1).finish fits.finish

    nowhere : (at : Cut) → led_in own.finish ≡ None → led_to (branch.1).finish ≡ Some at → ⊥
    nowhere at none led = none_some at (sym none ∙ sym led_by ∙ led)

    there : (at to : Cut) → led_in own.finish ≡ Some at → led_to (branch.1).finish ≡ Some to → to ≡ at
    there at to led to_led = some_one to at (sym to_led ∙ led_by ∙ led)

    belongs_by : (at to : Cut) (found : Option NamedCell) → to ≡ at → Belongs (branch.0).cell to cells found
        → Belongs states at cells found
    belongs_by at to found same is =
        subst (λ at. Belongs states at cells found) same
        (subst (λ cell. Belongs cell to cells found) fits.at.cell is)

  -- ---- where it leads

  pub none_led : led_in own.finish ≡ None → IsFaultOf scene condition.Arrivals from own None
  none_led none client caller branch fits text fault = nowhere client caller branch fits fault.0 none fault.1

  pub lies_there : (at : Cut) (to : NamedCell) → led_in own.finish ≡ Some at → Belongs states at cells (Some to)
      → IsFaultOf scene condition.Arrivals from own None
  lies_there at to led lies client caller branch fits text fault =
      none_some to (belongs_one states at cells None (Some to)
      (belongs_by client caller branch fits at fault.0 None
      (there client caller branch fits at fault.0 led fault.1) fault.2) lies)

  pub strays_so : (at : Cut) (text : List ℕ) → led_in own.finish ≡ Some at → Belongs states at cells None
      → Lacks states at cells text → IsFaultOf scene condition.Arrivals from own (Some text)
  strays_so at text led none lacks client caller branch fits = (
    at,
    led_by client caller branch fits ∙ led,
    subst (λ cell. Belongs cell at cells None) (sym fits.at.cell) none,
    inl (subst (λ cell. Lacks cell at cells text) (sym fits.at.cell) lacks),
  )

  -- ---- how it ends

  pub out_so : ends_out own.finish ≡ true → IsFaultOf scene condition.Ends from own (Some [])
  out_so out client caller branch fits = (out_bad client caller own branch fits scene.claim.now out, refl)

  pub breaks_so : MayBreakIn scene.claim.now own → IsFaultOf scene condition.Ends from own (Some [])
  breaks_so may client caller branch fits = (break_bad client caller own branch fits scene.claim.now may, refl)

  pub fine_so : ends_out own.finish ≡ false → (MayBreakIn scene.claim.now own → ⊥)
      → IsFaultOf scene condition.Ends from own None
  fine_so inside none client caller branch fits text fault =
      none_bad client caller own branch fits scene.claim.now inside none fault.0

  -- ---- ranks

  pub none_ranked : led_in own.finish ≡ None → IsFaultOf scene condition.Ranks from own None
  none_ranked none client caller branch fits text fault = nowhere client caller branch fits fault.0 none fault.2

  pub lies_nowhere : (at : Cut) → led_in own.finish ≡ Some at → Belongs states at cells None
      → IsFaultOf scene condition.Ranks from own None
  lies_nowhere at led none client caller branch fits text fault =
      none_some fault.1 (belongs_one states at cells None (Some fault.1) none
      (belongs_by client caller branch fits at fault.0 (Some fault.1)
      (there client caller branch fits at fault.0 led fault.2) fault.3))

  pub grows_so : (at : Cut) (to : NamedCell) → led_in own.finish ≡ Some at → Belongs states at cells (Some to)
      → grows_in scene.bounds from own.finish to ≡ true → IsFaultOf scene condition.Ranks from own None
  grows_so at to led lies growing client caller branch fits text fault =
      let same = some_one to fault.1 (belongs_one states at cells (Some to) (Some fault.1) lies
      (belongs_by client caller branch fits at fault.0 (Some fault.1)
      (there client caller branch fits at fault.0 led fault.2) fault.3)) in
      true≢false (sym growing
      ∙ sym (grows_is caller scene.bounds from to own.finish (branch.1).finish fits.finish)
      ∙ ap (grows scene.bounds from (branch.1).finish) same ∙ fault.4)

  pub stalls_so : (at : Cut) (to : NamedCell) → led_in own.finish ≡ Some at → Belongs states at cells (Some to)
      → grows_in scene.bounds from own.finish to ≡ false → IsFaultOf scene condition.Ranks from own (Some [])
  stalls_so at to led lies stalled client caller branch fits = (
    at,
    to,
    led_by client caller branch fits ∙ led,
    subst (λ cell. Belongs cell at cells (Some to)) (sym fits.at.cell) lies,
    grows_is caller scene.bounds from to own.finish (branch.1).finish fits.finish ∙ stalled,
    refl,
  )

-- ---- one branch after another

module _ (scene : Scene) (of : Condition) where
  -- The first of these branches, as plans have them.
  abbrev pub FirstFrom : NamedCell → List SegmentIn → Option Found → Type 0
  FirstFrom from segments found = (client : Option Addr) (caller : Caller) (branches : List (Branch Segment))
      → AllFit (SegmentFits client caller) segments branches → FirstIn (FaultIn scene of) from branches found

  pub none_first : (from : NamedCell) → FirstFrom from [] None
  none_first from client caller branches none =
      subst (λ branches. FirstIn (FaultIn scene of) from branches None) (sym none) refl

  pub one_over : (from : NamedCell) (own : SegmentIn) (segments : List SegmentIn) (found : Option Found)
      → IsFaultOf scene of from own None → FirstFrom from segments found → FirstFrom from (own ∷ segments) found
  one_over from own segments found fine later client caller branches fit =
      subst (λ branches. FirstIn (FaultIn scene of) from branches found) (sym fit.2)
      (inr (fine client caller fit.0 fit.3, later client caller fit.1 fit.4))

  pub one_here : (from : NamedCell) (own : SegmentIn) (segments : List SegmentIn) (text : List ℕ)
      → IsFaultOf scene of from own (Some text)
      → FirstFrom from (own ∷ segments) (Some (record { branch = own.decisions; text = text }))
  one_here from own segments text fault client caller branches fit =
      subst (λ branches.
      FirstIn (FaultIn scene of) from branches (Some (record { branch = own.decisions; text = text }))) (sym fit.2) (inl (
        text,
        fault client caller fit.0 fit.3,
        ap (λ decisions. Some (record { branch = decisions; text = text })) (sym (fit.3).decided),
      ))

  -- ---- one cell after another

  abbrev pub FirstAmong : ℕ → List WalkedIn → Option Rejection → Type 0
  FirstAmong number cells said = (client : Option Addr) (caller : Caller) (walked : List Walked)
      → AllFit (WalkedFits client caller) cells walked → FirstOf (FaultIn scene of) of number walked said

  pub none_among : (number : ℕ) → FirstAmong number [] None
  none_among number client caller walked none =
      subst (λ walked. FirstOf (FaultIn scene of) of number walked None) (sym none) refl

  abbrev pub told : ℕ → Found → Rejection
  told number found = record { condition = of; cell = number; branch = found.branch; text = found.text }

  first_by : (number : ℕ) (own : WalkedIn) (walked : Walked) (client : Option Addr) (caller : Caller)
      (found : Option Found) → WalkedFits client caller own walked
      → FirstFrom own.own.now own.branches.items found → FirstIn (FaultIn scene of) walked.own walked.branches found
  first_by number own walked client caller found fits first =
      subst (λ from. FirstIn (FaultIn scene of) from walked.branches found) (sym fits.0)
      (first client caller walked.branches fits.1)

  pub cell_over : (number : ℕ) (own : WalkedIn) (more : List WalkedIn) (said : Option Rejection)
      → FirstFrom own.own.now own.branches.items None → FirstAmong (number + 1) more said
      → FirstAmong number (own ∷ more) said
  cell_over number own more said fine later client caller walked fit =
      subst (λ walked. FirstOf (FaultIn scene of) of number walked said) (sym fit.2)
      (None, first_by number own fit.0 client caller None fit.3 fine, later client caller fit.1 fit.4)

  pub cell_here : (number : ℕ) (own : WalkedIn) (more : List WalkedIn) (found : Found)
      → FirstFrom own.own.now own.branches.items (Some found)
      → FirstAmong number (own ∷ more) (Some (told number found))
  cell_here number own more found first client caller walked fit =
      subst (λ walked. FirstOf (FaultIn scene of) of number walked (Some (told number found))) (sym fit.2)
      (Some found, first_by number own fit.0 client caller (Some found) fit.3 first, refl)
