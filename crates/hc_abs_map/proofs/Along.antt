-- Along a list of entries.
use Rattle.hc_abs_map.proofs.Common.{◌≡◌, ◌∙◌, List, [], ◌∷◌, ◌++◌, true, false, Option, None, Some, refl, sym, ap}
use Rattle.hc_abs_map.proofs.Common.{subst, Plan, Slot, done, append-nil}
use Rattle.hc_addr.specs.declared.addr.Addr.{Addr}
use Rattle.hc_cells.specs.declared.ties.Ties.{Ties}
use Rattle.hc_model.specs.declared.mapping.PathTest.{PathTest}
use Rattle.hc_model.specs.declared.mapping.Redirect.{Redirect}
use Rattle.hc_plan.proofs.Coded.{end_fits, let_go_fits}
use Rattle.hc_plan.specs.Branches.{Branch, with_given}
use Rattle.hc_plan.specs.Plan.{take_up}
use Rattle.hc_plan.specs.States.{this}
use Rattle.hc_plan.specs.declared.hand.Way.{Way}
use Rattle.hc_plan.specs.declared.storing.Tied.{Tied}
use Rattle.hc_abs_rw.specs.Templates.{groups, main, slot_item}
use Rattle.hc_abs_rw.specs.declared.ways.Ways.{Ways}
use Rattle.hc_abs_pass.specs.Ends.{left_of}
use Rattle.hc_abs_pass.specs.declared.ends.Left.{Left as LeftIn}
use Rattle.hc_abs_pass.specs.Mapping.{left_by, taken}
unfoldable use Rattle.hc_abs_pass.specs.Mapping.{entries_plan}
use Rattle.hc_abs_map.specs.Entries.{AddsSent, AreTaken, OnTaken, tied_on}
use Rattle.hc_abs_map.specs.Along.{Adds, AreOn, Goes}
use Rattle.hc_abs_map.proofs.Going.{goes_on}
use Rattle.hc_abs_map.specs.Mapped.{RedirectedFits}
use Rattle.hc_abs_map.specs.declared.redirects.Redirected.{Redirected}
use Rattle.hc_abs_map.proofs.Taking.{entry_fits}

-- ---- plans

module _ {A E : Type 0} (from : E → PathTest) (sending : E → Plan A) where
  -- One list behind another.
  pub entries_joined : (one other : List E) (plan : Plan A)
      → entries_plan from sending (one ++ other) plan
      ≡ entries_plan from sending one (entries_plan from sending other plan)
  unfolding entries_plan
  entries_joined [] other plan = refl
  entries_joined (entry ∷ one) other plan =
      λ i. take_up main (slot_item Slot.Path ∷ []) (taken (from entry) (λ is. elim is [
        | true ↦ sending entry
        | false ↦ entries_joined one other plan i
      ]))

-- ---- entries

module _ {A B E : Type 0} (Fit : Option Addr → B → Branch A → Type 0) (from : E → PathTest) (sending : E → Plan A)
  where
    abbrev pub GoesEntries : List E → Option Tied → Option Tied → List B → List B → Type 0
    GoesEntries entries before rest = Goes (AreOn Fit before) (AreOn Fit rest) (entries_plan from sending entries)

    pub no_entries : (before rest : Option Tied) (earlier later : List B) → rest ≡ before → later ≡ earlier
        → GoesEntries [] before rest earlier later
    unfolding entries_plan
    no_entries before rest earlier later same none = record {
      added = [];
      more = none ∙ sym (append-nil earlier);
      leads = λ plan tail found. subst (λ rest. AreOn Fit rest plan tail) same found;
    }

    pub entries_more : (entries all more : List E) (before mid rest : Option Tied) (earlier found later : List B)
        → all ≡ entries ++ more → GoesEntries entries before mid earlier found → GoesEntries more mid rest found later
        → GoesEntries all before rest earlier later
    entries_more entries all more before mid rest earlier found later is =
        goes_on (AreOn Fit before) (AreOn Fit mid) (AreOn Fit rest) (entries_plan from sending entries)
        (entries_plan from sending more) (entries_plan from sending all) earlier found later
        (λ plan. sym (entries_joined from sending entries more plan)
        ∙ ap (λ all. entries_plan from sending all plan) (sym is))

    -- What one leaves.
    pub entry_goes : (entry : E) (before rest : Option Tied) (tied : Tied) (ways : Ways) (earlier later : List B)
        → before ≡ Some tied → AreTaken (from entry) tied ways
        → Adds (OnTaken Fit (from entry) tied.ties (sending entry) ways.held) earlier later
        → rest ≡ tied_on tied.ties ways.failed → GoesEntries (entry ∷ []) before rest earlier later
    unfolding entries_plan
    entry_goes entry before rest tied ways earlier later there are adds is = record {
      added = adds.0;
      more = adds.1;
      leads = λ plan tail found.
          subst (λ before. AreOn Fit before (entries_plan from sending (entry ∷ []) plan) (adds.0 ++ tail)) (sym there)
          (λ client state ends. entry_fits Fit client (from entry) tied ways are state ends (λ is. elim is [
            | true ↦ sending entry
            | false ↦ plan
          ]) adds.0 tail adds.2 (subst (λ rest. AreOn Fit rest plan tail) is found));
    }
    -- ---- redirects

abbrev sent_to : Ties → Way → LeftIn → Redirected
sent_to ties way left = record { tied = record { cell = way.cell; ties = ties }; left = Some left }

-- What one leaves that takes the path.
pub sent_taken : (redirect : Redirect) (ties : Ties) (way : Way) (left : LeftIn) (given : Option Way)
    (earlier later : List Redirected) → given ≡ Some way → left_of left ≡ left_by redirect
    → later ≡ earlier ++ sent_to ties way left ∷ [] → AddsSent redirect ties given earlier later
sent_taken redirect ties way left given earlier later there is more =
    subst (λ given. AddsSent redirect ties given earlier later) (sym there) (
      sent_to ties way left ∷ [],
      more,
      (λ client state taken.
          let_go_fits (RedirectedFits client) state groups (done (Some (left_by redirect))) (sent_to ties way left ∷ [])
          (end_fits (RedirectedFits client) (with_given state groups (λ at. this [])) (Some (left_by redirect))
          (sent_to ties way left) (
            record { cell = taken.cell; ties = taken.ties_are; given = taken.others; printed = taken.printed },
            sym (ap Some is),
          ))),
    )

pub untaken_ends : (tied : Tied) (before : Option Tied) (earlier later : List Redirected) → before ≡ Some tied
    → later ≡ earlier ++ record { tied = tied; left = None } ∷ []
    → Adds (AreOn RedirectedFits before (done None)) earlier later
untaken_ends tied before earlier later there more =
    subst (λ before. Adds (AreOn RedirectedFits before (done None)) earlier later) (sym there) (
      record { tied = tied; left = None } ∷ [],
      more,
      (λ client state ends.
          end_fits (RedirectedFits client) state None (record { tied = tied; left = None }) (ends, refl)),
    )
