-- Behind redirects.
use Rattle.hc_abs_map.proofs.Common.{◌≡◌, ◌∙◌, List, [], ◌∷◌, ◌++◌, Bool, true, false, Option, None, Some, refl, sym, ap, subst}
use Rattle.hc_abs_map.proofs.Common.{Plan, Slot, done}
use Rattle.std.specs.Option.{option_map}
use Rattle.hc_addr.specs.declared.addr.Addr.{Addr}
use Rattle.hc_alias.specs.Mapping.{redirects_of}
use Rattle.hc_alias.specs.Tests.{is_below}
use Rattle.hc_model.specs.declared.config.Server.{Server}
use Rattle.hc_model.specs.declared.mapping.PathTest.{PathTest}
use Rattle.hc_model.specs.declared.mapping.PathTest.TheVariants.{Prefix, Search}
use Rattle.hc_model.specs.declared.mapping.Redirect.{Redirect}
use Rattle.hc_plan.proofs.Coded.{end_fits, joined_fits}
use Rattle.hc_plan.specs.Branches.{Branch}
use Rattle.hc_plan.specs.Coded.{AreBranches}
use Rattle.hc_plan.specs.Plan.{look_for, take_up, test}
unfoldable use Rattle.hc_plan.specs.Plan.{and_then}
use Rattle.hc_plan.specs.States.{AbsState}
use Rattle.hc_plan.specs.declared.storing.Tied.{Tied}
use Rattle.hc_abs_rw.specs.Templates.{groups, main, slot_item}
use Rattle.hc_abs_pass.specs.Ends.{EndsAt, Left, left_of}
use Rattle.hc_abs_pass.specs.Mapping.{Placing, over, redirects_plan, sent_away, taken}
unfoldable use Rattle.hc_abs_pass.specs.Mapping.{entries_plan, map_plan}
use Rattle.hc_abs_pass.specs.declared.ends.Left.{Left as LeftIn}
use Rattle.hc_abs_map.specs.Aliases.{AddsBehind, AreBehind, behind_redirects}
use Rattle.hc_abs_map.specs.Along.{Adds, AreOn}
use Rattle.hc_abs_map.specs.Mapped.{AreMapped, AreRedirected, MappedFits, RedirectedFits}
use Rattle.hc_abs_map.specs.declared.mapped.Mapped.{Mapped}
use Rattle.hc_abs_map.specs.declared.mapped.Mapped.TheVariants as mapped
use Rattle.hc_abs_map.specs.declared.redirects.Redirected.{Redirected}

module _ (servers : List Server) where
  abbrev next : Option Left → Plan Placing
  next = behind_redirects servers

  -- The first redirect that takes the path, and what follows where none does.
  led : (redirects : List Redirect)
      → and_then (redirects_plan Some redirects (done None)) next ≡ redirects_plan over redirects (next None)
  unfolding and_then entries_plan
  led [] = refl
  led (redirect ∷ redirects) = λ i. take_up main (slot_item Slot.Path ∷ []) (by redirect.from (led redirects) i)
    where
      Rest : Type 0
      Rest = and_then (redirects_plan Some redirects (done None)) next ≡ redirects_plan over redirects (next None)

      each : Rest → (is : Bool) → and_then (elim is [
        | true ↦ sent_away Some redirect
        | false ↦ redirects_plan Some redirects (done None)
      ]) next ≡ elim is [
        | true ↦ sent_away over redirect
        | false ↦ redirects_plan over redirects (next None)
      ]
      each rest true = refl
      each rest false = rest

      by : (own : PathTest) → Rest → and_then (taken own (λ is. elim is [
        | true ↦ sent_away Some redirect
        | false ↦ redirects_plan Some redirects (done None)
      ])) next ≡ taken own (λ is. elim is [
        | true ↦ sent_away over redirect
        | false ↦ redirects_plan over redirects (next None)
      ])
      by (Prefix from) rest = λ i. test main (is_below from) (λ is. each rest is i)
      by (Search pattern) rest = λ i. look_for groups pattern main (λ is. each rest is i)

  pub mapped_fit : (tied : Tied) (redirected : List Redirected) (found : List Mapped)
      → AreRedirected (redirects_of servers) tied redirected → AreBehind servers redirected found
      → AreMapped servers tied found
  unfolding map_plan
  mapped_fit tied redirected found are behind client state ends =
      subst (λ plan. AreBranches (MappedFits client) plan state found) (led (redirects_of servers))
      (joined_fits (RedirectedFits client) (MappedFits client) next
      (redirects_plan Some (redirects_of servers) (done None)) state redirected found (are client state ends)
      (behind client))

  module _ (one : Redirected) (earlier later : List Mapped) where
    by_end : (client : Option Addr) (given : Option LeftIn) (found : List Mapped) → one.left ≡ given
        → ((state : AbsState) → EndsAt client one.tied state
        → AreBranches (MappedFits client) (next (option_map left_of given)) state found)
        → (branch : Branch (Option Left)) → RedirectedFits client one branch
        → AreBranches (MappedFits client) (next branch.1) branch.0 found
    by_end client given found same leads branch fits =
        subst (λ end. AreBranches (MappedFits client) (next end) branch.0 found)
        (sym (fits.1 ∙ ap (option_map left_of) same)) (leads branch.0 fits.0)

    -- One ends the pass.
    pub sent_behind : (left : LeftIn) → one.left ≡ Some left → later ≡ earlier ++ mapped.Over one.tied left ∷ []
        → AddsBehind servers one earlier later
    sent_behind left same more client = (
      mapped.Over one.tied left ∷ [],
      more,
      by_end client (Some left) (mapped.Over one.tied left ∷ []) same (λ state ends.
          end_fits (MappedFits client) state (over (left_of left)) (mapped.Over one.tied left) (ends, refl)),
    )

    -- None takes the path.
    pub unsent_behind : one.left ≡ None → Adds (AreOn MappedFits (Some one.tied) (next None)) earlier later
        → AddsBehind servers one earlier later
    unsent_behind same adds client = (
      adds.0,
      adds.1,
      by_end client None adds.0 same (λ state ends. adds.2 client state ends),
    )
